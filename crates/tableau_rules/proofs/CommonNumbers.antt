-- The least number that two sets have, found word by word.
use Rattle.std.specs.Int.{bit_at}
use Rattle.std.proofs.Common.{bit_and, ◌≡◌, ℕ, zero, suc, ◌+◌, ◌-◌, ◌*◌, ◌<◌, ◌≤◌, false, List, [], ◌∷◌, IsTrue, ◌==◌, ◌&&◌, Some, None, length, get_or, min, refl, inl, inr, sym, ap, ap₂, ◌∙◌, subst, true≢false, arith}
use Rattle.std.proofs.lemmas.Bool.{cases_lt, ne_eqb}
use Rattle.std.proofs.lemmas.Grind.{get_or_default_zero}
use Rattle.std.proofs.lemmas.Nat.Bits.{bit_at_and, bit_at-lt}
use Rattle.tableau_rules.specs.Sets.{has_number, first_in}
use Rattle.tableau_rules.specs.Words.{has_bit, numbers_of}
use Rattle.formula_table.proofs.Tests.{cond_case, or_left, or_right, or_true, eq_of, eq_to, eq_self, and_intro, and_true}
use Rattle.tableau_rules.proofs.NumberSets.{each_has}
use Rattle.tableau_rules.proofs.Ascending.{IsAscending}
use Rattle.tableau_rules.proofs.OneWord.{word_bit}
use Rattle.tableau_rules.proofs.NumbersOfWords.{numbers_ascending, bit_of_number, number_of_bit, past_none}
use Rattle.state_space.proofs.BitSets.{not_one_from_zero}

-- ---- in lists
pub first_is : (y : ℕ) (set xs : List ℕ) → IsTrue (has_number xs y) → IsTrue (has_number set y) → ((z : ℕ) → z < y → IsTrue (has_number xs z) → IsTrue (has_number set z) → ⊥) → IsAscending xs → first_in set xs ≡ Some y
first_is y set [] h s n a = absurd (true≢false (sym h))
first_is y set (v ∷ vs) h s n a = cond_case (λ o. o ≡ Some y) (has_number set v) _ _
    (λ b. ap Some (elim (or_true (y == v) (has_number vs y) h) [
      | inl e ↦ sym (eq_of y v e)
      | inr m ↦ absurd (n v (each_has (λ w. v < w) vs y a.0 m) (or_left (v == v) _ (eq_self v)) b)
    ]))
    (λ f. elim (or_true (y == v) (has_number vs y) h) [
      | inl e ↦ absurd (true≢false (sym (subst (λ w. IsTrue (has_number set w)) (eq_of y v e) s) ∙ f))
      | inr m ↦ first_is y set vs m s (λ z p k q. n z p (or_right (z == v) _ k) q) a.1
    ])

pub first_none : (set xs : List ℕ) → ((z : ℕ) → IsTrue (has_number xs z) → IsTrue (has_number set z) → ⊥) → first_in set xs ≡ None
first_none set [] n = refl
first_none set (v ∷ vs) n = cond_case (λ o. o ≡ None) (has_number set v) _ _
    (λ b. absurd (n v (or_left (v == v) _ (eq_self v)) b))
    (λ _. first_none set vs (λ z k q. n z (or_right (z == v) _ k) q))

-- ---- in one word
min_both : (x y : ℕ) → x < 2 → y < 2 → (min x y == 1) ≡ (x == 1 && y == 1)
min_both zero zero l m = refl
min_both zero (suc zero) l m = refl
min_both (suc zero) zero l m = refl
min_both (suc zero) (suc zero) l m = refl
min_both (suc (suc x)) y l m = absurd (omega arith)
min_both zero (suc (suc y)) l m = absurd (omega arith)
min_both (suc zero) (suc (suc y)) l m = absurd (omega arith)

both_bit : (a b : List ℕ) (at z : ℕ) → 64 * at ≤ z → z < 64 * at + 64 → (has_bit a z && has_bit b z) ≡ (bit_at (bit_and (get_or a at 0) (get_or b at 0)) (z - 64 * at) == 1)
both_bit a b at z l m =
    let u = get_or a at 0 in
    let v = get_or b at 0 in
    let k = z - 64 * at in
    ap₂ (λ x y. x && y) (word_bit a at z l m) (word_bit b at z l m)
    ∙ sym (ap (λ x. x == 1) (bit_at_and u v k) ∙ min_both (bit_at u k) (bit_at v k) (bit_at-lt u k) (bit_at-lt v k))

-- what stands at a place of both, whatever else it would be past the end
pub both_at : (a b : List ℕ) (at d e : ℕ) → at < length a → at < length b → bit_and (get_or a at d) (get_or b at e) ≡ bit_and (get_or a at 0) (get_or b at 0)
both_at a b at d e l m = ap₂ bit_and (get_or_default_zero a at d l) (get_or_default_zero b at e m)

module _ (a b : List ℕ) (at w : ℕ) (word : w ≡ bit_and (get_or a at 0) (get_or b at 0)) where
  no_bit : (z : ℕ) → 64 * at ≤ z → z < 64 * at + 64 → bit_at w (z - 64 * at) ≡ 0 → (has_bit a z && has_bit b z) ≡ false
  no_bit z l m e = both_bit a b at z l m ∙ (ap (λ x. bit_at x (z - 64 * at) == 1) (sym word) ∙ ne_eqb (bit_at w (z - 64 * at)) 1 (not_one_from_zero (bit_at w (z - 64 * at)) e))

  pub both_some : (k y : ℕ) → y ≡ 64 * at + k → k < 64 → bit_at w k ≡ 1 → ((j : ℕ) → 0 ≤ j → j < k → bit_at w j ≡ 0)
      → (64 * at ≤ y) × (y < 64 * at + 64) × IsTrue (has_bit a y && has_bit b y) × ((z : ℕ) → 64 * at ≤ z → z < y → (has_bit a z && has_bit b z) ≡ false)
  both_some k y e l o n =
      let q : y - 64 * at ≡ k = omega arith in (
        omega arith,
        omega arith,
        both_bit a b at y (omega arith) (omega arith) ∙ (ap (λ x. bit_at x (y - 64 * at) == 1) (sym word) ∙ eq_to (bit_at w (y - 64 * at)) 1 (ap (bit_at w) q ∙ o)),
        λ z g h. no_bit z g (omega arith) (n (z - 64 * at) (omega arith) (omega arith)),
      )

  pub both_none : ((j : ℕ) → 0 ≤ j → bit_at w j ≡ 0) → (z : ℕ) → 64 * at ≤ z → z < 64 * at + 64 → (has_bit a z && has_bit b z) ≡ false
  both_none n z l m = no_bit z l m (n (z - 64 * at) (omega arith))

-- ---- in all words
pub first_common : (a b : List ℕ) (y : ℕ) → IsTrue (has_bit a y && has_bit b y) → ((z : ℕ) → z < y → (has_bit a z && has_bit b z) ≡ false) → Some y ≡ first_in (numbers_of b) (numbers_of a)
first_common a b y h n =
    let r = and_true (has_bit a y) (has_bit b y) h in
    sym (first_is y (numbers_of b) (numbers_of a) (number_of_bit a y r.0) (number_of_bit b y r.1)
    (λ z l p q. true≢false (sym (and_intro (has_bit a z) (has_bit b z) (bit_of_number a z p) (bit_of_number b z q)) ∙ n z l)) (numbers_ascending a))

pub no_common : (a b : List ℕ) (at : ℕ) → min (length a) (length b) ≤ at → ((z : ℕ) → z < 64 * at → (has_bit a z && has_bit b z) ≡ false) → None ≡ first_in (numbers_of b) (numbers_of a)
no_common a b at l n = sym (first_none (numbers_of b) (numbers_of a) (λ z p q. none z (bit_of_number a z p) (bit_of_number b z q)))
  where
    none : (z : ℕ) → IsTrue (has_bit a z) → IsTrue (has_bit b z) → ⊥
    none z p q = elim (cases_lt z (64 * at)) [
      | inl m ↦ true≢false (sym (and_intro (has_bit a z) (has_bit b z) p q) ∙ n z m)
      | inr g ↦ elim (cases_lt at (length a)) [
        | inl s ↦ true≢false (sym q ∙ past_none b z (shorter g s))
        | inr t ↦ true≢false (sym p ∙ past_none a z (omega arith))
      ]
    ]
      where
        shorter : 64 * at ≤ z → at < length a → 64 * length b ≤ z
        shorter g s = let f : length b ≤ at = grind arith in omega (arith, f)
