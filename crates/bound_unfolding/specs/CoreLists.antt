-- The cores of lists of formulas.
use Rattle.std.specs.Prelude.{ℕ, true, List, map}
use Rattle.temporal_logic.specs.Ltl.{Ltl}
use Rattle.bound_unfolding.specs.CoreForm.{CoreForm}
use Rattle.bound_unfolding.specs.CoreTree.{core_tree}

-- the positive cores of formulas over variables of these sizes
abbrev pub cores_of : List ℕ → List Ltl → List CoreForm
cores_of sizes list = map (core_tree sizes true) list
