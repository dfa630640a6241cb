use Rattle.std.proofs.Common.{◌≡◌, drop}
use Rattle.std.specs.Prelude.{map}
use Rattle.state_space.specs.Spaces.{sizes}
use Rattle.temporal_logic.specs.Trees.{tree_of}
use Rattle.bound_unfolding.specs.CoreLists.{cores_of}
use Rattle.formula_table.specs.Closures.{with_cores}
use Rattle.formula_table.specs.Tables.{closure_in}
use Rattle.formula_table.proofs.size.put_all.Given as goal

abbrev pub invariant-formulas : goal.invariant-formulas
invariant-formulas l = with_cores (cores_of (sizes l.space) (map tree_of (drop l.formula-index l.list))) (closure_in l.table) ≡ with_cores (cores_of (sizes l.space) (map tree_of l.list)) (closure_in l.fn.table)
