-- Logical operators on the bits of words.
use Rattle.std.proofs.Common.{◌≡◌, ℕ, ◌+◌, ◌-◌, ◌%◌, ◌^◌, ◌<◌, ◌↔◌, ◌⊎◌, inl, inr, ap, ◌∙◌, arith, ⊎_elim}
use Rattle.std.specs.Prelude.{min, max, bit_and, bit_or, bit_xor}
use Rattle.std.specs.Int.{bit_at, bit_not, w64}
use Rattle.std.proofs.lemmas.Bool.{cases_eq}
use Rattle.std.proofs.lemmas.Nat.Bits.{bit_at-lt, bit_at-zero, bit_at_and, bit_at_or, bit_at_xor, bit_at_not}
use Rattle.temporal_logic.proofs.Equivalences.{iff_trans, and_iff, or_iff, iff_refl, value_iff}
use Rattle.state_space.proofs.BitSets.{meet_has, join_has}

-- ---- one bit of each
module _ (x y : ℕ) (s : x < 2) (t : y < 2) where
  implies_bits : (max (1 - x) y ≡ 1) ↔ (x ≡ 1 → y ≡ 1)
  implies_bits =
      (λ h a. omega (arith, h, a), λ f. ⊎_elim (λ e. let g = f e in omega (arith, e, g)) (λ n. omega (arith, n)) (cases_eq x 1))

  iff_bits : ((1 - x + y) % 2 ≡ 1) ↔ ((x ≡ 1) ↔ (y ≡ 1))
  iff_bits =
      (λ h. (λ a. omega (arith, h, a), λ b. omega (arith, h, b)), λ f. ⊎_elim (λ e. let g = f.0 e in omega (arith, e, g)) (λ n. ⊎_elim (λ e. absurd (n (f.1 e))) (λ m. omega (arith, n, m)) (cases_eq y 1)) (cases_eq x 1))

not_bits : (x : ℕ) → x < 2 → (1 - x ≡ 1) ↔ (¬ (x ≡ 1))
not_bits x s = (λ h a. omega (arith, h, a), λ n. omega (arith, n))

-- ---- whole words
is_one : (x y : ℕ) → x ≡ y → (x ≡ 1) ↔ (y ≡ 1)
is_one x y e = value_iff (λ v. v ≡ 1) e

pub not_word : (a r : ℕ) → a < 2 ^ 64 → r < 64 → (bit_at (bit_not w64 a) r ≡ 1) ↔ (¬ (bit_at a r ≡ 1))
not_word a r s l =
    iff_trans (is_one (bit_at (bit_not w64 a) r) (1 - bit_at a r) (bit_at_not w64 a r s l)) (not_bits (bit_at a r) (bit_at-lt a r))

pub implies_word : (a b r : ℕ) → a < 2 ^ 64 → r < 64 → (bit_at (bit_or (bit_not w64 a) b) r ≡ 1) ↔ (bit_at a r ≡ 1 → bit_at b r ≡ 1)
implies_word a b r s l =
    iff_trans (is_one (bit_at (bit_or (bit_not w64 a) b) r) (max (1 - bit_at a r) (bit_at b r)) (bit_at_or (bit_not w64 a) b r ∙ ap (λ v. max v (bit_at b r)) (bit_at_not w64 a r s l))) (implies_bits (bit_at a r) (bit_at b r) (bit_at-lt a r) (bit_at-lt b r))

pub iff_word : (a b r : ℕ) → a < 2 ^ 64 → r < 64 → (bit_at (bit_xor (bit_not w64 a) b) r ≡ 1) ↔ ((bit_at a r ≡ 1) ↔ (bit_at b r ≡ 1))
iff_word a b r s l =
    iff_trans (is_one (bit_at (bit_xor (bit_not w64 a) b) r) ((1 - bit_at a r + bit_at b r) % 2) (bit_at_xor (bit_not w64 a) b r ∙ ap (λ v. (v + bit_at b r) % 2) (bit_at_not w64 a r s l))) (iff_bits (bit_at a r) (bit_at b r) (bit_at-lt a r) (bit_at-lt b r))

pub either_word : (a b c r : ℕ) → (bit_at (bit_or b (bit_and a c)) r ≡ 1) ↔ ((bit_at b r ≡ 1) ⊎ ((bit_at a r ≡ 1) × (bit_at c r ≡ 1)))
either_word a b c r = iff_trans (join_has b (bit_and a c) r) (or_iff iff_refl (meet_has a c r))

pub both_word : (a b c r : ℕ) → (bit_at (bit_and b (bit_or a c)) r ≡ 1) ↔ ((bit_at b r ≡ 1) × ((bit_at a r ≡ 1) ⊎ (bit_at c r ≡ 1)))
both_word a b c r = iff_trans (meet_has b (bit_or a c) r) (and_iff iff_refl (join_has a c r))

pub none_word : (r : ℕ) → ¬ (bit_at 0 r ≡ 1)
none_word r h = let z = bit_at-zero r in omega (arith, z, h)
