use Rattle.std.proofs.Common.{◌≡◌, length}
use Rattle.formula_table.specs.Closures.{closure_of}
use Rattle.tableau_rules.specs.QueryView.{cores_in}
use Rattle.tableau_rules.specs.GraphView.{graph_of}
use Rattle.tableau_rules.proofs.LinkLists.{AreLinksOf}
use Rattle.tableau_rules.proofs.edges.links_of.Given as goal

abbrev pub invariant-nodes : goal.invariant-nodes
invariant-nodes l = record {
  size : length l.links.items ≡ l.node-index;
  links : AreLinksOf (closure_of (cores_in l.query)) (graph_of l.graph) l.links.items;
}
