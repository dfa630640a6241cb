use Rattle.std.proofs.Common.{◌≡◌, length, map}
use Rattle.tableau_rules.specs.GraphView.{graph_of}
use Rattle.tableau_rules.specs.CertView.{cert_node_of}
use Rattle.tableau_elimination.proofs.CertLists.{AreEntries}
use Rattle.tableau_elimination.proofs.certify.certificate.Given as goal

abbrev pub invariant-places : goal.invariant-places
invariant-places l = record {
  size : length l.nodes.items ≡ l.place;
  nodes : AreEntries (graph_of l.graph) l.ranks l.causes (map cert_node_of l.nodes.items);
}
