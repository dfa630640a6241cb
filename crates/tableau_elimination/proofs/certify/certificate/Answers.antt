use Rattle.std.proofs.Common.{arith, sym, ap, ◌∙◌, length, get_or}
use Rattle.tableau_rules.specs.GraphView.{graph_of}
use Rattle.tableau_rules.proofs.LinkLists.{seen_at, size_of}
use Rattle.tableau_elimination.specs.Marks.{cause_at}
use Rattle.tableau_elimination.specs.CertNodes.{cert_node_by}
use Rattle.tableau_elimination.proofs.CertLists.{one_more_in_memory, all_in_memory}
use Rattle.tableau_elimination.proofs.certify.certificate.Goals as goal

pub places-preserved : goal.places-preserved
places-preserved c = record {
  size = omega (arith, c.in_ok-push.ensures.len);
  nodes = one_more_in_memory (graph_of c.args.graph.now) c.args.ranks.now c.args.causes.now c.places.nodes.items c.push.new.self.items c.places.place c.in_ok-cert_node.field-0
      c.in_ok-push.ensures.items c.places.invariant.size c.places.invariant.nodes
      (c.in_ok-cert_node.ensures
      ∙ ap (λ g. cert_node_by g (get_or c.args.ranks.now c.places.place 0) (cause_at c.args.causes.now c.places.place)) (sym (seen_at c.args.graph.now.nodes.items c.places.place c.index.result.now (omega arith) c.index.ensures)));
}

pub returns : goal.returns
returns c =
    all_in_memory (graph_of c.args.graph.now) c.args.ranks.now c.args.causes.now c.places.nodes.items
    (size_of c.args.graph.now.nodes.items (length c.places.nodes.items) (omega arith)) c.places.invariant.nodes
