-- The plain cores that a query of the code stands for.
use Rattle.std.specs.Prelude.{List, map}
use Rattle.bound_unfolding.specs.CoreForm.{CoreForm}
use Rattle.formula_table.specs.Closures.{formula_at}
use Rattle.formula_table.specs.Tables.{closure_in}
use Rattle.tableau_rules.specs.declared.query.Query.{Query}

-- the trees of a query's cores
abbrev pub cores_in : Query → List CoreForm
cores_in q = map (λ id. formula_at (closure_in q.formulas.table) id.0) q.numbers.items
