use Rattle.std.proofs.Common.{length, map, ◌-◌}
use Rattle.state_space.specs.Spaces.{sizes}
use Rattle.tableau_rules.specs.NodeView.{node_of}
use Rattle.tableau_rules.specs.QueryView.{cores_in}
use Rattle.tableau_graph.specs.Places.{AreRows}
use Rattle.tableau_graph.specs.Joined.{rows_in}
use Rattle.tableau_graph.proofs.exploration.explore.Given as goal

abbrev pub invariant-rows : goal.invariant-rows
invariant-rows l = AreRows (sizes l.space) (cores_in l.query) l.budget (map node_of l.nodes.keys) (rows_in l.rows.items)

abbrev pub decreases-rows : goal.decreases-rows
decreases-rows l = l.budget - length l.rows.items
