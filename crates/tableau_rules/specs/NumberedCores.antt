-- Cores that are given by their numbers in a closure.
use Rattle.std.specs.Prelude.{ℕ, Bool, true, List, [], ◌∷◌, nat_lt, ◌&&◌, map}
use Rattle.bound_unfolding.specs.CoreForm.{CoreForm}
use Rattle.formula_table.specs.declared.shape.FormulaId.{FormulaId}
use Rattle.formula_table.specs.Closures.{formula_at}

-- the cores of these numbers
abbrev pub cores_at : List CoreForm → List FormulaId → List CoreForm
cores_at closure numbers = map (λ id. formula_at closure id.0) numbers

-- whether each of the numbers is below n: a test has one proof, so a type can carry it
abbrev pub are_below : ℕ → List FormulaId → Bool
are_below n [] = true
are_below n (id ∷ ids) = nat_lt id.0 n && are_below n ids
