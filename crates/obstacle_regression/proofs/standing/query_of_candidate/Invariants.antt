use Rattle.std.proofs.Common.{◌≡◌, ◌++◌, map, drop}
use Rattle.state_space.specs.Spaces.{sizes}
use Rattle.temporal_logic.specs.Trees.{tree_of}
use Rattle.bound_unfolding.specs.CoreLists.{cores_of}
use Rattle.bound_unfolding.specs.CoreView.{core_tree_of}
use Rattle.obstacle_regression.proofs.standing.query_of_candidate.Given as goal

abbrev pub invariant-domain : goal.invariant-domain
invariant-domain l = map core_tree_of l.cores.items ++ cores_of (sizes l.space) (map tree_of (drop l.formula-index l.domain)) ≡ cores_of (sizes l.space) (map tree_of l.domain)
