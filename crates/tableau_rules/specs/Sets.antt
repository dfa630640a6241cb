-- Sets of numbers, as ascending lists.
use Rattle.std.specs.Prelude.{ℕ, Bool, false, List, [], ◌∷◌, Option, None, Some, nat_lt, ◌==◌, ◌||◌, if◌then◌else◌}

-- whether the number is there
abbrev pub has_number : List ℕ → ℕ → Bool
has_number [] x = false
has_number (y ∷ ys) x = x == y || has_number ys x

-- the set with the number, which stands there once
abbrev pub with_number : ℕ → List ℕ → List ℕ
with_number x [] = x ∷ []
with_number x (y ∷ ys) = if nat_lt x y then x ∷ y ∷ ys else if x == y then y ∷ ys else y ∷ with_number x ys

-- the set without the number
abbrev pub without_number : ℕ → List ℕ → List ℕ
without_number x [] = []
without_number x (y ∷ ys) = if x == y then ys else y ∷ without_number x ys

-- from the first number that is not below x
abbrev pub numbers_from : ℕ → List ℕ → List ℕ
numbers_from x [] = []
numbers_from x (y ∷ ys) = if nat_lt y x then numbers_from x ys else y ∷ ys

-- the least number that is not below x
abbrev pub least_from : ℕ → List ℕ → Option ℕ
least_from x [] = None
least_from x (y ∷ ys) = if nat_lt y x then least_from x ys else Some y

-- the set with the number, if one is given
abbrev pub with_option : Option ℕ → List ℕ → List ℕ
with_option None numbers = numbers
with_option (Some x) numbers = with_number x numbers

-- the set without the number, if one is given
abbrev pub without_option : Option ℕ → List ℕ → List ℕ
without_option None numbers = numbers
without_option (Some x) numbers = without_number x numbers

-- what is made of a set where one number goes and then two come
abbrev pub changed : Option ℕ → Option ℕ → Option ℕ → List ℕ → List ℕ
changed gone first second numbers = with_option second (with_option first (without_option gone numbers))

-- the first of the numbers that the set has
abbrev pub first_in : List ℕ → List ℕ → Option ℕ
first_in set [] = None
first_in set (y ∷ ys) = if has_number set y then Some y else first_in set ys
