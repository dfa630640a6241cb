use Rattle.std.proofs.Common.{◌<◌, length, get_or, sym, ap, arith}
use Rattle.std.proofs.lemmas.List.{length-map}
use Rattle.temporal_logic.specs.Rows.{rows}
use Rattle.tableau_rules.specs.Graphs.{GraphNodeForm}
use Rattle.tableau_rules.specs.GraphView.{graph_node_of, graph_of}
use Rattle.tableau_rules.specs.NodeView.{node_of}
use Rattle.tableau_rules.proofs.LinkLists.{seen_at}
use Rattle.lasso_builder.proofs.StateRows.{rows_more}
use Rattle.lasso_builder.proofs.states.states_along.Goals as goal

pub places-preserved : goal.places-preserved
places-preserved c =
    let graph = c.args.graph.now in
    let k = c.places.place-index in
    let place = get_or c.args.places.now k 0 in
    let size = length-map graph.nodes.items graph_node_of in
    let among = c.requires.inside k 0 (omega arith) in
    let inside : place < length graph.nodes.items = omega (arith, size, among) in
    let seen = seen_at graph.nodes.items place c.index.result.now inside c.index.ensures in
    rows_more (graph_of graph) c.args.places.now k (node_of c.index.result.now.node) (rows c.places.along.items) (rows c.add_state.new.along.items) (omega arith)
    (sym (ap (λ (g : GraphNodeForm). g.node) seen)) c.places.invariant c.in_ok-add_state.ensures
