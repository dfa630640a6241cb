-- Values of digits that are bounded on the way, and of the digits of a number.
use Rattle.std.proofs.Common.{◌≡◌, ℕ, suc, ◌+◌, ◌-◌, ◌*◌, ◌^◌, ◌<◌, ◌≤◌, List, [], ◌∷◌, ◌++◌, length, drop, get_or, refl, ap, ⊎_elim, arith, add-one, drop-cons}
use Rattle.std.specs.Prelude.{◌/◌, ◌%◌, min, decimal}
use Rattle.std.proofs.lemmas.Bool.{cases_lt}
use Rattle.std.proofs.lemmas.Fmt.{decimal_by_steps}
use Rattle.source_sink.specs.Decimals.{value_behind}

grows : (a : ℕ) (digits : List ℕ) → a ≤ value_behind a digits
grows a [] = omega arith
grows a (d ∷ digits) = omega (arith, grows (10 * a + (d - 48)) digits)

saturates : (most a : ℕ) (digits : List ℕ) → min (value_behind (min a most) digits) most ≡ min (value_behind a digits) most
saturates most a digits = ⊎_elim over within (cases_lt most a)
  where
    over : most < a → min (value_behind (min a most) digits) most ≡ min (value_behind a digits) most
    over h = omega (arith, grows (min a most) digits, grows a digits)

    within : a ≤ most → min (value_behind (min a most) digits) most ≡ min (value_behind a digits) most
    within h = let is : min a most ≡ a = omega arith in ap (λ (k : ℕ). min (value_behind k digits) most) is

-- one digit more, where the value so far is bounded
pub one_digit : (most value at : ℕ) (digits : List ℕ) → at < length digits → min (value_behind (min (10 * value + (get_or digits at 0 - 48)) most) (drop (at + 1) digits)) most ≡ min (value_behind value (drop at digits)) most
one_digit most value at digits inside = rw (add-one, drop-cons digits at 0) (saturates most (10 * value + (get_or digits at 0 - 48)) (drop (suc at) digits))

behind_more : (front : ℕ) (digits : List ℕ) (digit : ℕ) → value_behind front (digits ++ digit ∷ []) ≡ 10 * value_behind front digits + (digit - 48)
behind_more front [] digit = refl
behind_more front (d ∷ digits) digit = behind_more (10 * front + (d - 48)) digits digit

-- the value of the digits of a number
pub decimal_value : (n : ℕ) → n < 2 ^ 64 → value_behind 0 (decimal n) ≡ n
decimal_value n h = decimal_by_steps (λ m digits. value_behind 0 digits ≡ m) one more n h
  where
    one : (m : ℕ) → m < 10 → value_behind 0 ((48 + m) ∷ []) ≡ m
    one m l = omega arith

    more : (m : ℕ) (digits : List ℕ) → 10 ≤ m → value_behind 0 digits ≡ m / 10 → value_behind 0 (digits ++ (48 + m % 10) ∷ []) ≡ m
    more m digits l e = omega (arith, behind_more 0 digits (48 + m % 10), e)
