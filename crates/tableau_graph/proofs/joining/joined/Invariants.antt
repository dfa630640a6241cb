use Rattle.std.proofs.Common.{length, map}
use Rattle.tableau_rules.specs.NodeView.{node_of}
use Rattle.tableau_graph.specs.Joined.{join, rows_in}
use Rattle.tableau_graph.proofs.Joins.{IsJoining}
use Rattle.tableau_graph.proofs.joining.joined.Given as goal

abbrev pub invariant-last : goal.invariant-last
invariant-last l = IsJoining l.nodes.keys l.rows.items l.graph.items (join (map node_of l.initial.nodes.keys) (rows_in l.initial.rows.items))

abbrev pub decreases-last : goal.decreases-last
decreases-last l = length l.rows.items
