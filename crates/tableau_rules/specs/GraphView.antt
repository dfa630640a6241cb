-- Graphs as they are kept, seen as graphs of the tableau.
use Rattle.std.specs.Prelude.{List, map}
use Rattle.tableau_rules.specs.declared.graph.GraphNode.{GraphNode}
use Rattle.tableau_rules.specs.declared.graph.Graph.{Graph}
use Rattle.tableau_rules.specs.NodeView.{node_of}
use Rattle.tableau_rules.specs.Graphs.{GraphNodeForm}

-- the node without where it lies in memory
abbrev pub graph_node_of : GraphNode → GraphNodeForm
graph_node_of g = record { node = node_of g.node; kids = g.kids.items }

-- the nodes of a graph with the places of their kids, in order
abbrev pub graph_of : Graph → List GraphNodeForm
graph_of graph = map graph_node_of graph.nodes.items
