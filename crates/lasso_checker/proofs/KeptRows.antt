-- Rows that a write further on leaves as they are.
use Rattle.std.proofs.Common.{◌≡◌, ℕ, ◌+◌, ◌/◌, ◌%◌, ◌<◌, ◌≤◌, ◌↔◌, List, ap, arith}
use Rattle.std.specs.Prelude.{slice_index}
use Rattle.std.specs.Int.{bit_at}
use Rattle.temporal_logic.proofs.Equivalences.{value_iff}
use Rattle.lasso_checker.specs.Places.{place_of, RowAt, KeepsBelow}
use Rattle.lasso_checker.proofs.Positions.{place_in}

-- each word of the row is as it was
pub row_same : (t t' : List ℕ) (at words p c : ℕ) → 0 < c → words ≡ (p + c + 63) / 64 → ((k : ℕ) → at ≤ k → k < at + words → slice_index t' k ≡ slice_index t k) → (i : ℕ) → RowAt t' at p c i ↔ RowAt t at p c i
row_same t t' at words p c turns e same i =
    let within = place_in p c turns i in
    value_iff (λ v. v ≡ 1) (ap (λ v. bit_at v (place_of p c i % 64)) (same (at + place_of p c i / 64) (omega arith) (omega (arith, within, e))))

pub row_kept : (t t' : List ℕ) (at base words p c : ℕ) → 0 < c → words ≡ (p + c + 63) / 64 → at + words ≤ base → KeepsBelow base t t' → (i : ℕ) → RowAt t' at p c i ↔ RowAt t at p c i
row_kept t t' at base words p c turns e l same =
    row_same t t' at words p c turns e (λ k a b. same k (omega arith))
