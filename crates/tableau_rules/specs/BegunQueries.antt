-- A query to which cores still come.
use Rattle.std.specs.Prelude.{◌≡◌, IsTrue, List, [], length}
use Rattle.bound_unfolding.specs.CoreForm.{CoreForm}
use Rattle.formula_table.specs.Closures.{closure_of}
use Rattle.formula_table.specs.Tables.{closure_in}
use Rattle.tableau_rules.specs.declared.begun.Begun.{Begun}
use Rattle.tableau_rules.specs.Nodes.{with_numbers_of}
use Rattle.tableau_rules.specs.NumberedCores.{cores_at, are_below}

-- the cores that have come
abbrev pub cores_so_far : Begun → List CoreForm
cores_so_far begun = cores_at (closure_in begun.table) begun.numbers.items

-- the table has the closure of the cores that have come, their numbers are its own, and they are what is to be true at first
pub record IsBegun (begun : Begun) : Type 0 where
  pub closed : closure_in begun.table ≡ closure_of (cores_so_far begun)
  pub inside : IsTrue (are_below (length (closure_in begun.table)) begun.numbers.items)
  pub started : begun.start ≡ with_numbers_of (closure_in begun.table) (cores_so_far begun) []
