-- The formulas of a closure by how soon their turn comes.
use Rattle.std.specs.Prelude.{ℕ, List, length, ◌==◌}
use Rattle.bound_unfolding.specs.CoreForm.{CoreForm}
use Rattle.formula_table.specs.Closures.{formula_at}
use Rattle.tableau_rules.specs.Rules.{class_of}
use Rattle.tableau_rules.specs.Words.{passing}

-- the numbers of the formulas of a class, ascending
unfoldable pub of_class : List CoreForm → ℕ → List ℕ
of_class closure class = passing (λ f. class_of (formula_at closure f) == class) 0 (length closure)
