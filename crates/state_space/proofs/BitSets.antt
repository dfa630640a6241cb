-- Sets of indexes as the bits of a number.
use Rattle.std.proofs.Common.{◌≡◌, ℕ, ◌-◌, ◌*◌, ◌%◌, ◌^◌, ◌<◌, ◌≤◌, ◌↔◌, sym, ap, ◌∙◌, subst, arith, ⊎_elim, ◌⊎◌, inl, inr}
use Rattle.std.specs.Prelude.{bit_and, bit_or, IsTrue, nat_eq, min, max}
use Rattle.std.specs.Int.{bit_at, bit_not, w64, trailing_zeros}
use Rattle.std.proofs.lemmas.Nat.Bits.{bit_at_and, bit_at_or, bit_at-pow_same, bit_at-pow_other, bit_at-lt, bit_at_not, bit_at_above, bit_at_ones, bit_at_ones_above, bit_at-zero, bit_at-trailing_zeros, same_from_bits}
use Rattle.std.proofs.lemmas.Nat.{pow_below, and_mask}
use Rattle.std.proofs.Math.Nat.{max_comm, mod-eq_of_lt}
use Rattle.std.proofs.lemmas.Bool.{cases_lt, cases_eq, eqb-true, eq-eqb}

min_is_one : (x y z : ℕ) → z ≡ min x y → x < 2 → y < 2 → (z ≡ 1) ↔ ((x ≡ 1) × (y ≡ 1))
min_is_one x y z e p q = (λ h. (omega arith, omega arith), λ h. omega arith)

pub meet_has : (a b i : ℕ) → (bit_at (bit_and a b) i ≡ 1) ↔ ((bit_at a i ≡ 1) × (bit_at b i ≡ 1))
meet_has a b i = min_is_one (bit_at a i) (bit_at b i) (bit_at (bit_and a b) i) (bit_at_and a b i) (bit_at-lt a i) (bit_at-lt b i)

flipped : (x y : ℕ) → y ≡ 1 - x → x < 2 → (y ≡ 1) ↔ ¬ (x ≡ 1)
flipped x y e p = (λ h g. omega arith, λ h. omega arith)

pub not_one_from_zero : (x : ℕ) → x ≡ 0 → x ≡ 1 → ⊥
not_one_from_zero x e h = omega arith

-- all bits turned round, at 64 bits
pub others_has : (a i : ℕ) → a < 2 ^ 64 → (bit_at (2 ^ 64 - 1 - a) i ≡ 1) ↔ ((i < 64) × ¬ (bit_at a i ≡ 1))
others_has a i p = ⊎_elim below above (cases_lt i 64)
  where
    below : i < 64 → (bit_at (2 ^ 64 - 1 - a) i ≡ 1) ↔ ((i < 64) × ¬ (bit_at a i ≡ 1))
    below l = let f = flipped (bit_at a i) (bit_at (bit_not w64 a) i) (bit_at_not w64 a i p l) (bit_at-lt a i) in (λ h. (l, f.0 h), λ h. f.1 h.1)

    above : 64 ≤ i → (bit_at (2 ^ 64 - 1 - a) i ≡ 1) ↔ ((i < 64) × ¬ (bit_at a i ≡ 1))
    above g =
        let small : 2 ^ 64 - 1 - a < 2 ^ 64 = omega arith in
        (λ h. absurd (not_one_from_zero (bit_at (2 ^ 64 - 1 - a) i) (bit_at_above (2 ^ 64 - 1 - a) 64 i small g) h), λ h. absurd (omega (arith, h.0)))

-- a mask of the low bits
pub low_has : (k i : ℕ) → (bit_at (2 ^ k - 1) i ≡ 1) ↔ (i < k)
low_has k i = (λ h. ⊎_elim (λ l. l) (λ g. absurd (not_one_from_zero (bit_at (2 ^ k - 1) i) (bit_at_ones_above k i g) h)) (cases_lt i k), bit_at_ones k i)

pub cut_has : (a k i : ℕ) → a < 2 ^ 64 → k ≤ 64 → (bit_at (bit_and (2 ^ 64 - 1 - a) (2 ^ k - 1)) i ≡ 1) ↔ ((i < k) × ¬ (bit_at a i ≡ 1))
cut_has a k i p l =
    let m = meet_has (2 ^ 64 - 1 - a) (2 ^ k - 1) i in
    let o = others_has a i p in
    let w = low_has k i in
    (λ h. (w.0 (m.0 h).1, (o.0 (m.0 h).0).1), λ h. m.1 (o.1 (omega (arith, h.0), h.1), w.1 h.0))

pub shifted_one : (k : ℕ) → k < 64 → 1 * 2 ^ k % 2 ^ 64 ≡ 2 ^ k
shifted_one k l =
    let e : 1 * 2 ^ k ≡ 2 ^ k = omega arith in
    let small : 1 * 2 ^ k < 2 ^ 64 = omega (arith, pow_below k 64 l) in
    mod-eq_of_lt small ∙ e

pub none_has : (a : ℕ) → IsTrue (nat_eq a 0) ↔ ((i : ℕ) → ¬ (bit_at a i ≡ 1))
none_has a = (
  λ h i g. not_one_from_zero (bit_at a i) (ap (λ n. bit_at n i) (eqb-true a 0 h) ∙ bit_at-zero i) g,
  λ h. eq-eqb a 0 (same_from_bits a 0 (λ i. is_zero (bit_at a i) (bit_at-lt a i) (h i) ∙ sym (bit_at-zero i))),
)
  where
    is_zero : (x : ℕ) → x < 2 → ¬ (x ≡ 1) → x ≡ 0
    is_zero x p h = omega arith

pub least_has : (a : ℕ) → a < 2 ^ 64 → ¬ (a ≡ 0) → (bit_at a (trailing_zeros w64 a) ≡ 1) × ((j : ℕ) → j < trailing_zeros w64 a → ¬ (bit_at a j ≡ 1))
least_has a p n =
    let t = bit_at-trailing_zeros w64 a (omega arith) p in
    (t.1, λ j l h. not_one_from_zero (bit_at a j) (t.2 j l) h)

pub whole_mask : (a : ℕ) → 2 ^ 64 - 1 - a ≡ bit_and (2 ^ 64 - 1 - a) (2 ^ 64 - 1)
whole_mask a = let small : 2 ^ 64 - 1 - a < 2 ^ 64 = omega arith in sym (and_mask (2 ^ 64 - 1 - a) 64 ∙ mod-eq_of_lt small)

max_is_one : (x y z : ℕ) → z ≡ max x y → x < 2 → y < 2 → (z ≡ 1) ↔ ((y ≡ 1) ⊎ (x ≡ 1))
max_is_one x y z e p q = grind arith

pub join_has : (a b i : ℕ) → (bit_at (bit_or a b) i ≡ 1) ↔ ((bit_at a i ≡ 1) ⊎ (bit_at b i ≡ 1))
join_has a b i =
    max_is_one (bit_at b i) (bit_at a i) (bit_at (bit_or a b) i) (bit_at_or a b i ∙ max_comm (bit_at a i) (bit_at b i)) (bit_at-lt b i) (bit_at-lt a i)

-- the only bit of a power of two
power_has : (k i : ℕ) → (bit_at (2 ^ k) i ≡ 1) ↔ (i ≡ k)
power_has k i = (λ h. ⊎_elim (λ e. e) (λ n. absurd (not_one_from_zero (bit_at (2 ^ k) i) (bit_at-pow_other k i n) h)) (cases_eq i k), λ e. subst (λ j. bit_at (2 ^ k) j ≡ 1) (sym e) (bit_at-pow_same k))

pub with_has : (a k i : ℕ) → (bit_at (bit_or a (2 ^ k)) i ≡ 1) ↔ ((i ≡ k) ⊎ (bit_at a i ≡ 1))
with_has a k i =
    let m = max_is_one (bit_at a i) (bit_at (2 ^ k) i) (bit_at (bit_or a (2 ^ k)) i) (bit_at_or a (2 ^ k) i) (bit_at-lt a i) (bit_at-lt (2 ^ k) i) in
    let w = power_has k i in
    (λ h. ⊎_elim (λ l. inl (w.0 l)) (λ r. inr r) (m.0 h), λ h. m.1 (⊎_elim (λ l. inl (w.1 l)) (λ r. inr r) h))
