-- Equal lists of cores, by a test: what it says has one proof, so a type can carry it.
use Rattle.std.specs.Prelude.{Bool, true, false, List, [], ◌∷◌, ◌&&◌}
use Rattle.bound_unfolding.specs.CoreForm.{CoreForm}
use Rattle.formula_table.specs.Closures.{is_same}

-- whether two lists have the same cores in the same order
abbrev pub are_same : List CoreForm → List CoreForm → Bool
are_same [] [] = true
are_same (x ∷ xs) (y ∷ ys) = is_same x y && are_same xs ys
are_same _ _ = false
