use Rattle.std.proofs.Common.{◌≤◌, true, map, take}
use Rattle.std.specs.Prelude.{All}
use Rattle.state_space.specs.Spaces.{sizes}
use Rattle.temporal_logic.specs.Trees.{tree_of}
use Rattle.bound_unfolding.specs.CoreForm.{levels}
use Rattle.bound_unfolding.specs.CoreTree.{core_tree}
use Rattle.engine_tests.proofs.reading.are_small.Given as goal

abbrev pub invariant-formulas : goal.invariant-formulas
invariant-formulas l = All (λ f. levels (core_tree (sizes l.space) true f) ≤ 1000) (map tree_of (take l.formula-index l.list))
