-- Numbers that are all below a bound.
use Rattle.std.specs.List.{AllByRecursion as Each}
use Rattle.std.proofs.Common.{◌≡◌, Bool, true, false, cond, ℕ, ◌<◌, List, [], ◌∷◌, nat_lt, refl, arith}
use Rattle.std.specs.Prelude.{All}
use Rattle.std.proofs.lemmas.List.Elements.{All-from_recursion}
use Rattle.tableau_rules.specs.Sets.{numbers_from}

-- all numbers are below n where none is left from n on
all_below_each : (n : ℕ) (xs : List ℕ) → numbers_from n xs ≡ [] → Each (λ f. f < n) xs
all_below_each n [] = λ h. tt
all_below_each n (x ∷ xs) = go (nat_lt x n) refl (all_below_each n xs)
  where
    less : nat_lt x n ≡ true → x < n
    less e = grind arith

    go : (b : Bool) → nat_lt x n ≡ b → (numbers_from n xs ≡ [] → Each (λ f. f < n) xs) → cond b (numbers_from n xs) (x ∷ xs) ≡ [] → Each (λ f. f < n) (x ∷ xs)
    go true e r h = (less e, r h)
    go false e r h = absurd (cc)

pub all_below : (n : ℕ) (xs : List ℕ) → numbers_from n xs ≡ [] → All (λ f. f < n) xs
all_below n xs h = All-from_recursion (λ f. f < n) xs (all_below_each n xs h)
