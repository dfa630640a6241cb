-- The nodes that places of a graph stand for; a place past the end has a node that asks for nothing.
use Rattle.std.specs.Prelude.{ℕ, [], List, map, slice_index_or}
use Rattle.tableau_rules.specs.Nodes.{NodeForm}
use Rattle.tableau_rules.specs.Graphs.{GraphNodeForm}
use Rattle.tableau_rules.specs.Walks.{no_node}

-- the node at a place
abbrev pub node_in : List GraphNodeForm → ℕ → NodeForm
node_in graph place = (slice_index_or graph place (record { node = no_node; kids = [] })).node

-- the nodes at the places, in their order
abbrev pub nodes_at : List GraphNodeForm → List ℕ → List NodeForm
nodes_at graph places = map (node_in graph) places
