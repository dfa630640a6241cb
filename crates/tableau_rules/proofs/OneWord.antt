-- The bits of one word: which numbers they stand for, and what cutting off the low ones or writing one leaves.
use Rattle.std.specs.Int.{bit_at, trailing_zeros, w64, bit_not}
use Rattle.std.specs.Int.RustNames.{bit_or}
use Rattle.std.proofs.Common.{bit_and, ◌≡◌, ◌≢◌, ℕ, ◌+◌, ◌-◌, ◌*◌, ◌/◌, ◌%◌, ◌^◌, ◌<◌, ◌≤◌, List, ◌==◌, ◌||◌, ◌&&◌, not, get_or, min, inl, inr, sym, ap, ap₂, ◌∙◌, arith}
use Rattle.std.proofs.lemmas.Bool.{cases_lt, cases_eq, ne_eqb}
use Rattle.std.proofs.lemmas.Nat.Bits.{bit_at_and, bit_at_above, bit_at_mask_inside, bit_at_mask_below, bit_at-zero, bit_at_set_same, bit_at_set_other, bit_at_clear_same, bit_at_clear_other, bit_at-trailing_zeros, bit_at-lt}
use Rattle.tableau_rules.specs.Words.{has_bit}
use Rattle.formula_table.proofs.Tests.{or_left, eq_of, eq_to}
use Rattle.state_space.proofs.BitSets.{not_one_from_zero}

pub bit_eq : (a b c d : ℕ) → a ≡ b → c ≡ d → (bit_at a c == 1) ≡ (bit_at b d == 1)
bit_eq a b c d e f = ap₂ (λ x y. bit_at x y == 1) e f

pub bit_value : (x y : ℕ) → x < 2 → y < 2 → (x == 1) ≡ (y == 1) → x ≡ y
bit_value x y l m e = elim (cases_eq x 1) [
  | inl p ↦ p ∙ sym (eq_of y 1 (sym e ∙ eq_to x 1 p))
  | inr n ↦ elim (cases_eq y 1) [ inl q ↦ absurd (n (eq_of x 1 (e ∙ eq_to y 1 q))) | inr k ↦ small x l n ∙ sym (small y m k) ]
]
  where
    small : (v : ℕ) → v < 2 → v ≢ 1 → v ≡ 0
    small v l n = grind arith

pub word_bit : (ws : List ℕ) (at z : ℕ) → 64 * at ≤ z → z < 64 * at + 64 → has_bit ws z ≡ (bit_at (get_or ws at 0) (z - 64 * at) == 1)
word_bit ws at z l m =
    let d : z / 64 ≡ at = omega arith in
    let r : z % 64 ≡ z - 64 * at = omega arith in
    bit_eq (get_or ws (z / 64) 0) (get_or ws at 0) (z % 64) (z - 64 * at) (ap (λ j. get_or ws j 0) d) r

pub word_bit_of : (ws : List ℕ) (at k : ℕ) → k < 64 → has_bit ws (64 * at + k) ≡ (bit_at (get_or ws at 0) k == 1)
word_bit_of ws at k l = word_bit ws at (64 * at + k) (omega arith) (omega arith) ∙ ap (λ j. bit_at (get_or ws at 0) j == 1) (omega arith)

-- ---- a word with its low bits cut off
min_one : (x y : ℕ) → min x y ≡ 1 → x < 2 → y < 2 → (x ≡ 1) × (y ≡ 1)
min_one x y h l m = (grind arith, grind arith)

min_zero : (x y : ℕ) → min x y ≡ 0 → y ≡ 1 → x ≡ 0
min_zero x y h e = grind arith

pub masked_one : (w from k : ℕ) → from < 64 → k < 64 → bit_at (bit_and w (2 ^ 64 - 2 ^ from)) k ≡ 1 → (from ≤ k) × (bit_at w k ≡ 1)
masked_one w from k l m h =
    let r = min_one (bit_at w k) (bit_at (2 ^ 64 - 2 ^ from) k) (sym (bit_at_and w (2 ^ 64 - 2 ^ from) k) ∙ h) (bit_at-lt w k) (bit_at-lt (2 ^ 64 - 2 ^ from) k) in
    (elim (cases_lt k from) [ inl s ↦ absurd (not_one_from_zero (bit_at (2 ^ 64 - 2 ^ from) k) (bit_at_mask_below from 64 k s) r.1) | inr g ↦ g ], r.0)

pub masked_zero : (w from j : ℕ) → from ≤ j → j < 64 → bit_at (bit_and w (2 ^ 64 - 2 ^ from)) j ≡ 0 → bit_at w j ≡ 0
masked_zero w from j l m h = min_zero (bit_at w j) (bit_at (2 ^ 64 - 2 ^ from) j) (sym (bit_at_and w (2 ^ 64 - 2 ^ from) j) ∙ h) (bit_at_mask_inside from 64 j l m)

pub least_bit_some : (w from r : ℕ) → from < 64 → r ≡ bit_and w (2 ^ 64 - 2 ^ from) → r < 2 ^ 64 → 0 < r
    → (from ≤ trailing_zeros w64 r) × (trailing_zeros w64 r < 64) × (bit_at w (trailing_zeros w64 r) ≡ 1) × ((j : ℕ) → from ≤ j → j < trailing_zeros w64 r → bit_at w j ≡ 0)
least_bit_some w from r l e s p =
    let t = bit_at-trailing_zeros w64 r p s in
    let m = masked_one w from (trailing_zeros w64 r) l t.0 (ap (λ v. bit_at v (trailing_zeros w64 r)) (sym e) ∙ t.1) in
    (m.0, t.0, m.1, λ j a b. masked_zero w from j a (omega (arith, t.0)) (ap (λ v. bit_at v j) (sym e) ∙ t.2 j b))

pub least_bit_none : (w from r : ℕ) → w < 2 ^ 64 → r ≡ bit_and w (2 ^ 64 - 2 ^ from) → r ≡ 0 → (j : ℕ) → from ≤ j → bit_at w j ≡ 0
least_bit_none w from r s e z j a = elim (cases_lt j 64) [
  | inl l ↦ masked_zero w from j a l (ap (λ v. bit_at v j) (sym e ∙ z) ∙ bit_at-zero j)
  | inr g ↦ bit_at_above w 64 j s g
]

-- ---- a word with one bit written
pub with_bit : (w x at i k : ℕ) → i ≡ x / 64 → i ≡ at → k < 64 → (bit_at (bit_or w (1 * 2 ^ (x % 64) % 2 ^ 64)) k == 1) ≡ ((64 * at + k == x) || (bit_at w k == 1))
with_bit w x at i k e f l =
    let m : x % 64 < 64 = omega arith in
    let b = bit_or w (1 * 2 ^ (x % 64) % 2 ^ 64) in
    elim (cases_eq k (x % 64)) [
      | inl q ↦ ap (λ j. bit_at b j == 1) q ∙ (eq_to (bit_at b (x % 64)) 1 (bit_at_set_same w64 w (x % 64) m) ∙ sym (or_left (64 * at + k == x) (bit_at w k == 1) (eq_to (64 * at + k) x (omega arith))))
      | inr n ↦ ap (λ v. v == 1) (bit_at_set_other w64 w (x % 64) m k n) ∙ sym (ap (λ v. v || (bit_at w k == 1)) (ne_eqb (64 * at + k) x (λ h. n (omega arith))))
    ]

pub without_bit : (w x at i k : ℕ) → i ≡ x / 64 → i ≡ at → k < 64 → (bit_at (bit_and w (bit_not w64 (1 * 2 ^ (x % 64) % 2 ^ 64))) k == 1) ≡ (not (64 * at + k == x) && (bit_at w k == 1))
without_bit w x at i k e f l =
    let m : x % 64 < 64 = omega arith in
    let b = bit_and w (bit_not w64 (1 * 2 ^ (x % 64) % 2 ^ 64)) in
    elim (cases_eq k (x % 64)) [
      | inl q ↦ ap (λ j. bit_at b j == 1) q ∙ (ne_eqb (bit_at b (x % 64)) 1 (not_one_from_zero (bit_at b (x % 64)) (bit_at_clear_same w64 w (x % 64) m)) ∙ sym (ap (λ v. not v && (bit_at w k == 1)) (eq_to (64 * at + k) x (omega arith))))
      | inr n ↦ ap (λ v. v == 1) (bit_at_clear_other w64 w (x % 64) m k l n) ∙ sym (ap (λ v. not v && (bit_at w k == 1)) (ne_eqb (64 * at + k) x (λ h. n (omega arith))))
    ]
