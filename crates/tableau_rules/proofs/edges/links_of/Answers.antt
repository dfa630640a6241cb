use Rattle.std.proofs.Common.{arith, length, sym, subst}
use Rattle.formula_table.specs.Closures.{closure_of}
use Rattle.tableau_rules.specs.QueryView.{cores_in}
use Rattle.tableau_rules.specs.GraphView.{graph_of}
use Rattle.tableau_rules.proofs.Linked.{in_range}
use Rattle.tableau_rules.proofs.LinkLists.{AreLinksOf, one_more_link, all_linked, todo_below, few_kids, size_of}
use Rattle.tableau_rules.proofs.edges.links_of.Goals as goal

pub link_of-requires-clause-todo : goal.link_of-requires-clause-todo
link_of-requires-clause-todo c = todo_below (cores_in c.args.query.now) c.args.graph.now.nodes.items c.requires.whole c.nodes.node-index c.node-item.result (omega arith) (cc)

pub link_of-requires-clause-few : goal.link_of-requires-clause-few
link_of-requires-clause-few c = few_kids (cores_in c.args.query.now) c.args.graph.now.nodes.items c.requires.whole c.nodes.node-index c.node-item.result (omega arith) (cc)

pub nodes-preserved : goal.nodes-preserved
nodes-preserved c = record {
  size = omega (arith, c.in_ok-push.ensures.len);
  links = subst (AreLinksOf (closure_of (cores_in c.args.query.now)) (graph_of c.args.graph.now)) (sym c.in_ok-push.ensures.items)
      (one_more_link (closure_of (cores_in c.args.query.now)) c.args.graph.now.nodes.items c.nodes.links.items c.nodes.node-index c.node-item.result c.link_of.result
      c.nodes.invariant.size (omega arith) (cc) c.nodes.invariant.links c.link_of.ensures);
}

pub returns-clause-linked : goal.returns-clause-linked
returns-clause-linked c = all_linked (cores_in c.args.query.now) (graph_of c.args.graph.now) c.nodes.links.items (size_of c.args.graph.now.nodes.items (length c.nodes.links.items) (omega arith)) c.nodes.invariant.links

pub returns-clause-in_range : goal.returns-clause-in_range
returns-clause-in_range c =
    in_range c.requires.whole.0 (cores_in c.args.query.now) (graph_of c.args.graph.now) c.nodes.links.items c.requires.whole.1
    (all_linked (cores_in c.args.query.now) (graph_of c.args.graph.now) c.nodes.links.items (size_of c.args.graph.now.nodes.items (length c.nodes.links.items) (omega arith)) c.nodes.invariant.links)
