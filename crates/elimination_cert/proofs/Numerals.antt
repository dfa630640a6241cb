-- Decimal numbers: their bytes, and that they are read again.
use Rattle.std.proofs.Common.{◌≡◌, ◌≢◌, ℕ, ◌+◌, ◌-◌, ◌*◌, ◌^◌, ◌<◌, ◌≤◌, List, [], ◌∷◌, ◌++◌, length, map, refl, arith}
use Rattle.std.specs.Prelude.{◌/◌, ◌%◌}
use Rattle.std.specs.List.{AllByRecursion as Each}
use Rattle.std.specs.Fmt.{decimal}
use Rattle.std.proofs.lemmas.Fmt.{decimal_by_steps, decimal_nonempty}
use Rattle.source_sink.proofs.DigitValues.{decimal_value}
use Rattle.elimination_cert.specs.Guesses.{number_in, small_in}
use Rattle.elimination_cert.proofs.Cuts.{Lacks, ArePieces}
use Rattle.tableau_rules.proofs.Lists.{each_map}

-- ---- of each element
pub each_joined : {X : Type 0} (P : X → Type 0) (xs ys : List X) → Each P xs → Each P ys → Each P (xs ++ ys)
each_joined P [] ys a b = b
each_joined P (x ∷ xs) ys a b = (a.0, each_joined P xs ys a.1 b)

pub each_mapped : {X Y : Type 0} (P : X → Type 0) (Q : Y → Type 0) (f : X → Y) (xs : List X) → ((x : X) → P x → Q (f x)) → Each P xs → Each Q (map f xs)
each_mapped P Q f [] g h = tt
each_mapped P Q f (x ∷ xs) g h = (g x h.0, each_mapped P Q f xs g h.1)

-- ---- bytes
-- the bytes are digits
abbrev pub AreDigits : List ℕ → Type 0
AreDigits bytes = Each (λ b. (48 ≤ b) × (b ≤ 57)) bytes

pub digits_decimal : (n : ℕ) → n < 2 ^ 64 → AreDigits (decimal n)
digits_decimal n h = decimal_by_steps (λ m digits. AreDigits digits) one more n h
  where
    one : (m : ℕ) → m < 10 → AreDigits ((48 + m) ∷ [])
    one m l = ((omega arith, omega arith), tt)

    more : (m : ℕ) (digits : List ℕ) → 10 ≤ m → AreDigits digits → AreDigits (digits ++ (48 + m % 10) ∷ [])
    more m digits l e = each_joined (λ b. (48 ≤ b) × (b ≤ 57)) digits ((48 + m % 10) ∷ []) e ((omega arith, omega arith), tt)

-- no digit is this byte
abbrev pub IsNoDigit : ℕ → Type 0
IsNoDigit byte = (b : ℕ) → (48 ≤ b) × (b ≤ 57) → b ≢ byte

pub lacks_decimal : (byte n : ℕ) → IsNoDigit byte → n < 2 ^ 64 → Lacks byte (decimal n)
lacks_decimal byte n other h = each_map (λ b. (48 ≤ b) × (b ≤ 57)) (λ b. b ≢ byte) (decimal n) other (digits_decimal n h)

pub below_digits : (byte : ℕ) → byte < 48 → IsNoDigit byte
below_digits byte l = λ b h e. omega arith

pub above_digits : (byte : ℕ) → 57 < byte → IsNoDigit byte
above_digits byte l = λ b h e. omega arith

-- numbers are pieces at what is no digit
pub pieces_decimal : (byte : ℕ) (numbers : List ℕ) → IsNoDigit byte → Each (λ n. n < 2 ^ 64) numbers → ArePieces byte (map decimal numbers)
pieces_decimal byte numbers other h = each_mapped (λ n. n < 2 ^ 64) (λ text. Lacks byte text × (0 < length text)) decimal numbers (λ n l. (lacks_decimal byte n other l, decimal_nonempty n l)) h

-- ---- values
pub number_again : (n : ℕ) → n < 2 ^ 32 → number_in (decimal n) ≡ n
unfolding number_in
number_again n h = let small : n < 2 ^ 64 = omega arith in omega (arith, decimal_value n small)

pub small_again : (n : ℕ) → n < 2 ^ 16 → small_in (decimal n) ≡ n
unfolding small_in
small_again n h = omega (arith, number_again n)

pub number_fits : (digits : List ℕ) → number_in digits < 2 ^ 32
unfolding number_in
number_fits digits = omega arith

pub small_fits : (digits : List ℕ) → small_in digits < 2 ^ 16
unfolding small_in
small_fits digits = omega arith
