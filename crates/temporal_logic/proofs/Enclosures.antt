-- A formula is written in parentheses exactly where it binds less tightly than its place asks.
use Rattle.std.proofs.Common.{◌≡◌, ℕ, ◌<◌, ◌≤◌, true, false, List, ◌++◌, refl, ◌∙◌, arith}
use Rattle.std.specs.Prelude.{nat_le, codes}
use Rattle.state_space.specs.Ranges.{RangeForm}
use Rattle.temporal_logic.specs.Ltl.{Ltl, truth, falsity, flag, compares, among, relates, neg, conj, disj, implies, iff, entails, next, eventually, always, until, unless, release, eventually_within, always_within, until_within, unless_within, release_within}
use Rattle.temporal_logic.specs.Tightness.{tightness}
use Rattle.temporal_logic.specs.Written.{enclosed, written}

nat_le_true : (m n : ℕ) → m ≤ n → nat_le m n ≡ true
nat_le_true m n l = grind arith

nat_le_false : (m n : ℕ) → n < m → nat_le m n ≡ false
nat_le_false m n l = grind arith

within_place : (asked own : ℕ) (text : List ℕ) → asked ≤ own → text ≡ enclosed asked own text
within_place asked own text l = rw (nat_le_true asked own l) refl

module _ (ns : List (List ℕ)) (rs : List RangeForm) where
  -- what is written at a place is what is written with no place, enclosed
  at_place : (asked : ℕ) (f : Ltl) → asked ≤ 7 → written ns rs asked f ≡ enclosed asked (tightness f) (written ns rs 0 f)
  at_place asked truth l = within_place asked 7 _ l
  at_place asked falsity l = within_place asked 7 _ l
  at_place asked (flag x) l = within_place asked 7 _ l
  at_place asked (compares x r v) l = within_place asked 7 _ l
  at_place asked (among x set) l = within_place asked 7 _ l
  at_place asked (relates x r y) l = within_place asked 7 _ l
  at_place asked (neg a) l = refl
  at_place asked (next a) l = refl
  at_place asked (eventually a) l = refl
  at_place asked (always a) l = refl
  at_place asked (eventually_within d a) l = refl
  at_place asked (always_within d a) l = refl
  at_place asked (until a b) l = refl
  at_place asked (unless a b) l = refl
  at_place asked (release a b) l = refl
  at_place asked (until_within d a b) l = refl
  at_place asked (unless_within d a b) l = refl
  at_place asked (release_within d a b) l = refl
  at_place asked (conj a b) l = refl
  at_place asked (disj a b) l = refl
  at_place asked (implies a b) l = refl
  at_place asked (iff a b) l = refl
  at_place asked (entails a b) l = refl

  pub tight_enough : (asked : ℕ) (f : Ltl) → asked ≤ 7 → asked ≤ tightness f → written ns rs asked f ≡ written ns rs 0 f
  tight_enough asked f l h = at_place asked f l ∙ rw (nat_le_true asked (tightness f) h) refl

  pub too_loose : (asked : ℕ) (f : Ltl) → asked ≤ 7 → tightness f < asked → written ns rs asked f ≡ codes "(" ++ written ns rs 0 f ++ codes ")"
  too_loose asked f l h = at_place asked f l ∙ rw (nat_le_false asked (tightness f) h) refl
