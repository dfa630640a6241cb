-- One bit of a row.
use Rattle.std.proofs.Common.{◌≡◌, ℕ, ◌+◌, ◌/◌, ◌%◌, ◌<◌, ◌≢◌, List, length, sym, ap, ◌∙◌, arith, ⊎_elim, get_or-set_same, get_or-set_other}
use Rattle.std.specs.Prelude.{slice_index, slice_set}
use Rattle.std.specs.Int.{bit_at}
use Rattle.std.proofs.lemmas.Bool.{cases_eq}
use Rattle.lasso_checker.specs.Places.{bit_of}

same_place : (a b n : ℕ) → a / 64 ≡ b / 64 → a % 64 ≡ b % 64 → a ≡ b
same_place a b n e f = omega arith

pub bit_of-set_same : (t : List ℕ) (base q w : ℕ) → base + q / 64 < length t → bit_of (slice_set t (base + q / 64) w) base q ≡ bit_at w (q % 64)
bit_of-set_same t base q w l = ap (λ v. bit_at v (q % 64)) (get_or-set_same t (base + q / 64) w 0 l)

pub bit_of-set_other : (t : List ℕ) (base q w r : ℕ) → base + q / 64 < length t → r ≢ q → ((k : ℕ) → k < 64 → k ≢ q % 64 → bit_at w k ≡ bit_at (slice_index t (base + q / 64)) k) → bit_of (slice_set t (base + q / 64) w) base r ≡ bit_of t base r
bit_of-set_other t base q w r l ne h = ⊎_elim same other (cases_eq (r / 64) (q / 64))
  where
    same : r / 64 ≡ q / 64 → bit_of (slice_set t (base + q / 64) w) base r ≡ bit_of t base r
    same e =
        ap (λ k. bit_at (slice_index (slice_set t (base + q / 64) w) (base + k)) (r % 64)) e
        ∙ ap (λ v. bit_at v (r % 64)) (get_or-set_same t (base + q / 64) w 0 l)
        ∙ h (r % 64) (omega arith) (λ f. ne (same_place r q 0 e f))
        ∙ ap (λ k. bit_at (slice_index t (base + k)) (r % 64)) (sym e)

    other : r / 64 ≢ q / 64 → bit_of (slice_set t (base + q / 64) w) base r ≡ bit_of t base r
    other d = ap (λ v. bit_at v (r % 64)) (get_or-set_other t (base + q / 64) (base + r / 64) w 0 (omega arith))
