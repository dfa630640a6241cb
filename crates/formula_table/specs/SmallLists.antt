-- Which lists of formulas are small enough to be answered, by the cores that they make.
use Rattle.std.specs.Prelude.{ℕ, ◌≤◌, true, List, length, All}
use Rattle.temporal_logic.specs.Ltl.{Ltl}
use Rattle.bound_unfolding.specs.CoreForm.{levels}
use Rattle.bound_unfolding.specs.CoreTree.{core_tree}
use Rattle.bound_unfolding.specs.CoreLists.{cores_of}
use Rattle.formula_table.specs.Closures.{closure_of}

-- the positive cores have at most 4,096 distinct subformulas together, and at most 1,000 levels each
pub record AreSmall (sizes : List ℕ) (list : List Ltl) : Type 0 where
  pub formulas : length (closure_of (cores_of sizes list)) ≤ 4096
  pub levels : All (λ f. levels (core_tree sizes true f) ≤ 1000) list
