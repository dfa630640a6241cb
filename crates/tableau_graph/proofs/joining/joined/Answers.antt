use Rattle.std.proofs.Common.{◌≡◌, [], ◌++◌, ◌∷◌, map, ap, ◌∙◌, arith}
use Rattle.std.proofs.lemmas.List.{nil_from_length}
use Rattle.tableau_rules.specs.NodeView.{node_of}
use Rattle.tableau_rules.specs.GraphView.{graph_node_of}
use Rattle.tableau_graph.specs.Joined.{join, rows_in}
use Rattle.tableau_graph.proofs.Joins.{joining_more, joining_end}
use Rattle.tableau_graph.proofs.joining.joined.Goals as goal

pub last-preserved : goal.last-preserved
last-preserved c =
    let i : c.push.new.self.items ≡ c.last.graph.items ++ record { node = c.take_last-node.result; kids = c.in-Some.kids } ∷ [] = c.in_ok-push.ensures.items in
    rw i (joining_more c.last.nodes.keys c.take_last-node.new.nodes.keys c.last.rows.items c.pop.new.self.items c.last.graph.items (join (map node_of c.args.nodes.keys) (rows_in c.args.rows.items))
    (record { node = c.take_last-node.result; kids = c.in-Some.kids }) c.take_last-node.ensures c.in-Some.ensures.items c.last.invariant)

pub returns : goal.returns
returns c =
    let z = c.in_default.ensures.cases.0 in
    let o = c.last.rows.ok.0 in
    let all = join (map node_of c.args.nodes.keys) (rows_in c.args.rows.items) in
    ap (map graph_node_of) c.reverse.ensures.items ∙ joining_end c.last.nodes.keys c.last.rows.items c.last.graph.items all (nil_from_length c.last.rows.items (omega (arith, z, o))) c.last.invariant
