-- When the indexes of a state lie in sets, one for each variable, and how that changes where the sets are met with others.
use Rattle.std.proofs.Common.{◌∙◌, ◌≡◌, ℕ, zero, suc, ◌-◌, ◌^◌, ◌<◌, List, [], ◌∷◌, ◌==◌, IsTrue, bit_and, refl, arith, inl, inr, sym, ap, subst, true≢false, length}
use Rattle.std.specs.Prelude.{slice_index}
use Rattle.std.specs.Int.{bit_at}
use Rattle.std.specs.List.{AllByRecursion as Each}
use Rattle.std.proofs.lemmas.List.{get_or-map, length-map}
use Rattle.std.proofs.lemmas.Nat.Bits.{bit_at_and, bit_at-lt, bit_at-zero, bit_at_ones}
use Rattle.temporal_logic.specs.Truth.{Trace}
use Rattle.temporal_logic.specs.Traces.{TraceFits}
use Rattle.tableau_rules.specs.Rules.{inside, apart}
use Rattle.state_space.specs.Members.{full_of}
use Rattle.tableau_rules.specs.Nodes.{has_empty, met_with, met_with_all}
use Rattle.tableau_rules.specs.Meeting.{IndexesLie}
use Rattle.formula_table.proofs.Tests.{or_true, eq_of}
use Rattle.tableau_rules.proofs.Lists.{each_map}

-- by recursion on the variables
abbrev pub LieIn : (ℕ → ℕ) → List ℕ → Type 0
LieIn s [] = Unit {0}
LieIn s (set ∷ now) = (bit_at set (s 0) ≡ 1) × LieIn (λ x. s (suc x)) now

pub lie_in : (s : ℕ → ℕ) (now : List ℕ) → ((x : ℕ) → x < length now → bit_at (slice_index now x) (s x) ≡ 1) → LieIn s now
lie_in s [] h = tt
lie_in s (set ∷ now) h = (h 0 (omega arith), lie_in (λ x. s (suc x)) now (λ x l. h (suc x) (omega arith)))

pub lie_each : (s : ℕ → ℕ) (now : List ℕ) → LieIn s now → (x : ℕ) → x < length now → bit_at (slice_index now x) (s x) ≡ 1
lie_each s [] h x l = absurd (omega arith)
lie_each s (set ∷ now) h zero l = h.0
lie_each s (set ∷ now) h (suc x) l = lie_each (λ y. s (suc y)) now h.1 x (omega arith)

-- ---- one set
-- what two sets have in common is what both have
pub bit_meet : (a b v : ℕ) → bit_at a v ≡ 1 → bit_at b v ≡ 1 → bit_at (bit_and a b) v ≡ 1
bit_meet a b v h k = let e = bit_at_and a b v in grind arith

pub bit_of_meet : (a b v : ℕ) → bit_at (bit_and a b) v ≡ 1 → (bit_at a v ≡ 1) × (bit_at b v ≡ 1)
bit_of_meet a b v h =
    let e = bit_at_and a b v in
    let la = bit_at-lt a v in
    let lb = bit_at-lt b v in
    (omega arith, omega arith)

pub bit_none : (v : ℕ) → bit_at 0 v ≡ 1 → ⊥
bit_none v h = omega (arith, h, bit_at-zero v)

-- ---- the sets of now
pub inside_true : (s : ℕ → ℕ) (now : List ℕ) (x set : ℕ) → LieIn s now → IsTrue (inside now x set) → bit_at set (s x) ≡ 1
inside_true s [] x set n h = absurd (true≢false (sym h))
inside_true s (a ∷ now) zero set n h = (bit_of_meet a set (s 0) (subst (λ z. bit_at z (s 0) ≡ 1) (sym (eq_of (bit_and a set) a h)) n.0)).1
inside_true s (a ∷ now) (suc x) set n h = inside_true (λ y. s (suc y)) now x set n.1 h

pub apart_false : (s : ℕ → ℕ) (now : List ℕ) (x set : ℕ) → LieIn s now → IsTrue (apart now x set) → bit_at set (s x) ≡ 1 → ⊥
apart_false s [] x set n h k = true≢false (sym h)
apart_false s (a ∷ now) zero set n h k =
    bit_none (s 0) (subst (λ z. bit_at z (s 0) ≡ 1) (eq_of (bit_and a set) 0 h) (bit_meet a set (s 0) n.0 k))
apart_false s (a ∷ now) (suc x) set n h k = apart_false (λ y. s (suc y)) now x set n.1 h k

pub empty_none : (s : ℕ → ℕ) (now : List ℕ) → IsTrue (has_empty now) → LieIn s now → ⊥
empty_none s [] h n = true≢false (sym h)
empty_none s (a ∷ now) h n = elim (or_true (a == 0) (has_empty now) h) [
  | inl e ↦ bit_none (s 0) (subst (λ z. bit_at z (s 0) ≡ 1) (eq_of a 0 e) n.0)
  | inr m ↦ empty_none (λ y. s (suc y)) now m n.1
]

pub lie_met : (s : ℕ → ℕ) (x set : ℕ) (now : List ℕ) → bit_at set (s x) ≡ 1 → LieIn s now → LieIn s (met_with x set now)
lie_met s x set [] h n = tt
lie_met s zero set (a ∷ now) h n = (bit_meet a set (s 0) n.0 h, n.1)
lie_met s (suc x) set (a ∷ now) h n = (n.0, lie_met (λ y. s (suc y)) x set now h n.1)

pub lie_of_met : (s : ℕ → ℕ) (x set : ℕ) (now : List ℕ) → x < length now → LieIn s (met_with x set now) → (bit_at set (s x) ≡ 1) × LieIn s now
lie_of_met s x set [] l n = absurd (omega arith)
lie_of_met s zero set (a ∷ now) l n = let r = bit_of_meet a set (s 0) n.0 in (r.1, (r.0, n.1))
lie_of_met s (suc x) set (a ∷ now) l n = let r = lie_of_met (λ y. s (suc y)) x set now (omega arith) n.1 in (r.0, (n.0, r.1))

pub length-met_with : (x set : ℕ) (now : List ℕ) → length (met_with x set now) ≡ length now
length-met_with x set [] = refl
length-met_with zero set (a ∷ now) = refl
length-met_with (suc x) set (a ∷ now) = ap suc (length-met_with x set now)

pub length-met_with_all : (ms : List (ℕ × ℕ)) (now : List ℕ) → length (met_with_all ms now) ≡ length now
length-met_with_all [] now = refl
length-met_with_all (m ∷ ms) now = length-met_with_all ms (met_with m.0 m.1 now) ∙ length-met_with m.0 m.1 now

-- the index is in each of the sets
abbrev pub AreIn : (ℕ → ℕ) → List (ℕ × ℕ) → Type 0
AreIn s ms = Each (λ m. bit_at m.1 (s m.0) ≡ 1) ms

abbrev pub AreBelow : ℕ → List (ℕ × ℕ) → Type 0
AreBelow n ms = Each (λ m. m.0 < n) ms

pub lie_met_all : (s : ℕ → ℕ) (ms : List (ℕ × ℕ)) (now : List ℕ) → AreIn s ms → LieIn s now → LieIn s (met_with_all ms now)
lie_met_all s [] now h n = n
lie_met_all s (m ∷ ms) now h n = lie_met_all s ms (met_with m.0 m.1 now) h.1 (lie_met s m.0 m.1 now h.0 n)

pub lie_of_met_all : (s : ℕ → ℕ) (ms : List (ℕ × ℕ)) (now : List ℕ) → AreBelow (length now) ms → LieIn s (met_with_all ms now) → AreIn s ms × LieIn s now
lie_of_met_all s [] now l n = (tt, n)
lie_of_met_all s (m ∷ ms) now l n =
    let met = met_with m.0 m.1 now in
    let below : AreBelow (length met) ms =
    each_map (λ (k : ℕ × ℕ). k.0 < length now) (λ k. k.0 < length met) ms (λ k h. omega (arith, length-met_with m.0 m.1 now)) l.1 in
    let r = lie_of_met_all s ms met below n in
    let q = lie_of_met s m.0 m.1 now l.0 r.1 in
    ((q.0, r.0), q.1)

-- ---- all indexes
pub length-full_of : (sizes : List ℕ) → length (full_of sizes) ≡ length sizes
length-full_of sizes = length-map sizes (λ size. 2 ^ size - 1)

pub full_lies : (sizes : List ℕ) (t : Trace) → TraceFits sizes t → (i : ℕ) → IndexesLie t i (full_of sizes)
full_lies sizes t fits i x l =
    let below : x < length sizes = subst (λ n. x < n) (length-full_of sizes) l in
    let all : slice_index (full_of sizes) x ≡ 2 ^ slice_index sizes x - 1 = get_or-map (λ size. 2 ^ size - 1) sizes x 0 0 below in
    subst (λ set. bit_at set (t i x) ≡ 1) (sym all) (bit_at_ones (slice_index sizes x) (t i x) (fits i x below))
