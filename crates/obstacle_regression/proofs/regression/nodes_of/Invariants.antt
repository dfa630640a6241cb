use Rattle.std.proofs.Common.{◌≡◌, ◌≤◌, ◌+◌, map, min, drop}
use Rattle.state_space.specs.Spaces.{sizes}
use Rattle.temporal_logic.specs.Trees.{tree_of}
use Rattle.bound_unfolding.specs.CoreLists.{cores_of}
use Rattle.obstacle_regression.specs.Regressions.{total_nodes}
use Rattle.obstacle_regression.proofs.regression.nodes_of.Given as goal

abbrev pub invariant-formulas : goal.invariant-formulas
invariant-formulas l = record {
  bound : l.count ≤ 4097;
  rest : min (l.count + total_nodes (cores_of (sizes l.space) (map tree_of (drop l.formula-index l.formulas)))) 4097
      ≡ min (total_nodes (cores_of (sizes l.space) (map tree_of l.formulas))) 4097;
}
