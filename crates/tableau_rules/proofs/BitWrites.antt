-- Words after one bit is set or cleared.
use Rattle.std.specs.Int.{bit_at, w64, bit_not}
use Rattle.std.specs.Int.RustNames.{bit_or}
use Rattle.std.proofs.Common.{bit_and, ◌≡◌, ◌≢◌, ℕ, zero, suc, ◌+◌, ◌-◌, ◌*◌, ◌/◌, ◌%◌, ◌^◌, ◌<◌, ◌≤◌, ◌⊎◌, List, ◌==◌, ◌||◌, ◌&&◌, not, length, get_or, set, length-set, refl, inl, inr, sym, ap, ap₂, ◌∙◌, subst, arith}
use Rattle.std.proofs.lemmas.Bool.{cases_eq, ne_eqb}
use Rattle.std.proofs.lemmas.Nat.Bits.{bit_at-zero, bit_at_set_same}
use Rattle.std.proofs.lemmas.List.{get_or-set_same, get_or-set_other}
use Rattle.std.proofs.lemmas.Grind.{get_or_default_zero}
use Rattle.tableau_rules.specs.Words.{has_bit, IsTrimmed}
use Rattle.formula_table.proofs.Tests.{eq_to}
use Rattle.tableau_rules.proofs.OneWord.{bit_eq, with_bit, without_bit}
use Rattle.tableau_rules.proofs.NumbersOfWords.{past_none}
use Rattle.state_space.proofs.BitSets.{not_one_from_zero}

old_bit : (ws : List ℕ) (i w z : ℕ) → z / 64 ≡ i → i < length ws → w ≡ get_or ws i w → has_bit ws z ≡ (bit_at w (z % 64) == 1)
old_bit ws i w z q within read = bit_eq (get_or ws (z / 64) 0) w (z % 64) (z % 64) (ap (λ j. get_or ws j 0) q ∙ sym (read ∙ get_or_default_zero ws i w within)) refl

-- the word w is the one at the number's place
pub set_bits : (ws : List ℕ) (x i w z : ℕ) → i ≡ x / 64 → i < length ws → w ≡ get_or ws i w → has_bit (set ws i (bit_or w (1 * 2 ^ (x % 64) % 2 ^ 64))) z ≡ (z == x || has_bit ws z)
set_bits ws x i w z place within read =
    let v = bit_or w (1 * 2 ^ (x % 64) % 2 ^ 64) in
    elim (cases_eq (z / 64) i) [
      | inl q ↦
          bit_eq _ v (z % 64) (z % 64) (ap (λ j. get_or (set ws i v) j 0) q ∙ get_or-set_same ws i v 0 within) refl
          ∙ (with_bit w x i i (z % 64) place refl (omega arith)
          ∙ ap₂ (λ y b. y == x || b) (omega arith) (sym (old_bit ws i w z q within read)))
      | inr q ↦
          let other : z ≢ x = λ e. q (ap (λ y. y / 64) e ∙ sym place) in
          bit_eq _ _ (z % 64) (z % 64) (get_or-set_other ws i (z / 64) v 0 q) refl ∙ sym (ap (λ b. b || has_bit ws z) (ne_eqb z x other))
    ]

pub clear_bits : (ws : List ℕ) (x i w z : ℕ) → i ≡ x / 64 → i < length ws → w ≡ get_or ws i w → has_bit (set ws i (bit_and w (bit_not w64 (1 * 2 ^ (x % 64) % 2 ^ 64)))) z ≡ (not (z == x) && has_bit ws z)
clear_bits ws x i w z place within read =
    let v = bit_and w (bit_not w64 (1 * 2 ^ (x % 64) % 2 ^ 64)) in
    elim (cases_eq (z / 64) i) [
      | inl q ↦
          bit_eq _ v (z % 64) (z % 64) (ap (λ j. get_or (set ws i v) j 0) q ∙ get_or-set_same ws i v 0 within) refl
          ∙ (without_bit w x i i (z % 64) place refl (omega arith)
          ∙ ap₂ (λ y b. not (y == x) && b) (omega arith) (sym (old_bit ws i w z q within read)))
      | inr q ↦
          let other : z ≢ x = λ e. q (ap (λ y. y / 64) e ∙ sym place) in
          bit_eq _ _ (z % 64) (z % 64) (get_or-set_other ws i (z / 64) v 0 q) refl ∙ sym (ap (λ b. not b && has_bit ws z) (ne_eqb z x other))
    ]

-- past the words no bit is set, and none need be cleared
pub clear_past : (ws : List ℕ) (x z : ℕ) → length ws ≤ x / 64 → has_bit ws z ≡ (not (z == x) && has_bit ws z)
clear_past ws x z l = elim (cases_eq z x) [
  | inl e ↦ past_none ws z (omega arith) ∙ sym (ap (λ b. not b && has_bit ws z) (eq_to z x e))
  | inr n ↦ sym (ap (λ b. not b && has_bit ws z) (ne_eqb z x n))
]

-- ---- a word with a bit set is not 0, so it may be the last one
positive : (n i : ℕ) → bit_at n i ≡ 1 → 0 < n
positive zero i h = absurd (not_one_from_zero (bit_at 0 i) (bit_at-zero i) h)
positive (suc n) i h = omega arith

pub set_trimmed : (ws : List ℕ) (x i n : ℕ) → i < length ws → 0 < n → (i + 1 ≡ length ws) ⊎ IsTrimmed ws → IsTrimmed (set ws i n)
set_trimmed ws x i n l p h g =
    let e : length (set ws i n) ≡ length ws = length-set ws i n in
    elim (cases_eq (length (set ws i n) - 1) i) [
      | inl q ↦ subst (λ v. 0 < v) (sym (ap (λ j. get_or (set ws i n) j 0) q ∙ get_or-set_same ws i n 0 l)) p
      | inr q ↦ subst (λ v. 0 < v) (sym (get_or-set_other ws i (length (set ws i n) - 1) n 0 q)) (elim h [
        | inl r ↦ absurd (q (omega arith))
        | inr t ↦ subst (λ j. 0 < get_or ws (j - 1) 0) (sym e) (t (omega arith))
      ])
    ]

pub set_positive : (n k : ℕ) → k < 64 → 0 < bit_or n (1 * 2 ^ k % 2 ^ 64)
set_positive n k l = positive (bit_or n (1 * 2 ^ k % 2 ^ 64)) k (bit_at_set_same w64 n k l)
