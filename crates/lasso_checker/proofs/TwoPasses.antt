-- The row of an operator that waits, by two passes backwards.
use Rattle.std.proofs.Common.{◌≡◌, ℕ, ◌+◌, ◌<◌, ◌↔◌, List, subst, arith, Bool}
use Rattle.std.specs.Prelude.{IsTrue}
use Rattle.temporal_logic.proofs.Equivalences.{iff_trans, value_iff}
use Rattle.temporal_logic.proofs.Search.{Repeats, dec_eq}
use Rattle.lasso_checker.specs.declared.operators.Waiting.{Waiting}
use Rattle.lasso_checker.specs.Places.{bit_of, place_of, RowAt}
use Rattle.lasso_checker.specs.Operators.{Steps, Waits, WaitsBefore}
use Rattle.lasso_checker.proofs.Positions.{row_here, row_repeats}
use Rattle.lasso_checker.proofs.Filling.{Filled, above_same}
use Rattle.lasso_checker.proofs.Congruence.{steps_iff}
use Rattle.lasso_checker.proofs.Unfoldings.{waits_unfolds, waits_before_unfolds, one_turn, repeats_waits}

module _ (waiting : Waiting) (old : List ℕ) (base words p c : ℕ) (turns : 0 < c) where
  abbrev One : ℕ → Type 0
  One = RowAt old base p c

  abbrev Other : ℕ → Type 0
  Other = RowAt old (base + words) p c

  pub one_decided : (i : ℕ) → Dec (One i)
  one_decided i = dec_eq (bit_of old base (place_of p c i)) 1

  pub turn_step : (k i : ℕ) (now next : Bool) → k ≡ i + 1 → i < p + c → IsTrue next ↔ WaitsBefore waiting (p + c) One Other k → IsTrue now ↔ Steps waiting (bit_of old base i ≡ 1) (bit_of old (base + words) i ≡ 1) (IsTrue next) → IsTrue now ↔ WaitsBefore waiting (p + c) One Other i
  turn_step k i now next e l before step =
      let here = subst (λ n. IsTrue next ↔ WaitsBefore waiting (p + c) One Other n) e before in
      iff_trans step (iff_trans (steps_iff waiting (row_here p c turns old base i l) (row_here p c turns old (base + words) i l) here) (waits_before_unfolds One Other one_decided waiting (p + c) i l))

  pub all_step : (t : List ℕ) (k i : ℕ) (now next : Bool) → k ≡ i + 1 → i < p + c → Filled (Waits waiting One Other) old t base words (p + c) k → IsTrue next ↔ Waits waiting One Other k → IsTrue now ↔ Steps waiting (bit_of t base i ≡ 1) (bit_of t (base + words) i ≡ 1) (IsTrue next) → IsTrue now ↔ Waits waiting One Other i
  all_step t k i now next e l f before step =
      let here = subst (λ n. IsTrue next ↔ Waits waiting One Other n) e before in
      let other = value_iff (λ v. v ≡ 1) (above_same (Waits waiting One Other) old t base words (p + c) k f i) in
      let one = value_iff (λ v. v ≡ 1) (f.todo i (omega arith)) in
      iff_trans step
      (iff_trans (steps_iff waiting (iff_trans one (row_here p c turns old base i l)) (iff_trans other (row_here p c turns old (base + words) i l)) here) (waits_unfolds One Other one_decided waiting i))

  pub waits_repeat : Repeats (Waits waiting One Other) p c
  waits_repeat = repeats_waits One Other p c turns (row_repeats p c turns old base) (row_repeats p c turns old (base + words)) waiting

  -- where the second pass begins
  pub second_begins : (now : Bool) (k : ℕ) → k ≡ p → IsTrue now ↔ WaitsBefore waiting (p + c) One Other k → IsTrue now ↔ Waits waiting One Other (p + c)
  second_begins now k e before =
      let r = waits_repeat in
      iff_trans before (iff_trans (one_turn One Other p c turns (row_repeats p c turns old base) (row_repeats p c turns old (base + words)) waiting k e) (r.ahead p (omega arith), r.back p (omega arith)))
