use Rattle.std.proofs.Common.{map}
use Rattle.state_space.specs.Spaces.{sizes}
use Rattle.tableau_rules.specs.NodeView.{node_of}
use Rattle.tableau_rules.specs.QueryView.{cores_in}
use Rattle.tableau_graph.proofs.Growth.{Rowing}
use Rattle.tableau_graph.proofs.exploration.row.Given as goal

abbrev pub invariant-kids : goal.invariant-kids
invariant-kids l = Rowing (sizes l.space) (cores_in l.query) l.budget (map node_of l.initial.nodes.keys) (map node_of l.nodes.keys) l.at l.which l.places.items
