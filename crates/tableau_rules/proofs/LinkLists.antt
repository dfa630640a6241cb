-- Links made one by one, in the order of the nodes.
use Rattle.std.proofs.Common.{◌≡◌, ℕ, ◌<◌, ◌≤◌, ◌↔◌, List, [], ◌∷◌, ◌++◌, IsTrue, Some, length, map, inl, inr, sym, ap, subst, ◌∙◌, arith}
use Rattle.std.specs.Prelude.{slice_get, slice_index_or}
use Rattle.std.proofs.lemmas.Bool.{cases_lt}
use Rattle.std.proofs.lemmas.List.{get_or-map, length-map, length-append, get_or_append_left, get_or_at}
use Rattle.state_space.specs.Members.{full_of}
use Rattle.bound_unfolding.specs.CoreForm.{CoreForm}
use Rattle.formula_table.specs.Closures.{closure_of}
use Rattle.tableau_rules.specs.declared.graph.GraphNode.{GraphNode}
use Rattle.tableau_rules.specs.declared.edges.Edges.{Edges}
use Rattle.tableau_rules.specs.Rules.{fulfils, Rule, clash, step, one, two, fulfil_only, wait_only, fulfil_or_wait}
use Rattle.tableau_rules.specs.Nodes.{NodeForm, chosen, node_rule, kids_by, kids}
use Rattle.tableau_rules.specs.NodeView.{AreNumbersBelow}
use Rattle.tableau_rules.specs.Graphs.{IsReached, GraphNodeForm, nodes_in, IsWhole}
use Rattle.tableau_rules.specs.GraphView.{graph_node_of}
use Rattle.tableau_rules.specs.Links.{no_link, IsLinkOf, IsLinked}
use Rattle.tableau_rules.proofs.QueryNodes.{reached_of_query}
use Rattle.tableau_rules.proofs.Linked.{no_graph_node, get_at, get_of, node_at_place, held_count, fulfils_get}

-- the links so far are those of the first nodes
abbrev pub AreLinksOf : List CoreForm → List GraphNodeForm → List Edges → Type 0
AreLinksOf closure graph links = (k : ℕ) → k < length links → IsLinkOf closure (slice_index_or graph k no_graph_node) (slice_index_or links k no_link)

pub no_links : (closure : List CoreForm) (graph : List GraphNodeForm) → AreLinksOf closure graph []
no_links closure graph k l = absurd (omega arith)

pub size_of : (nodes : List GraphNode) (n : ℕ) → n ≡ length nodes → n ≡ length (map graph_node_of nodes)
size_of nodes n e = let l = length-map nodes graph_node_of in omega (arith, l)

-- the node in memory at a place
pub seen_at : (nodes : List GraphNode) (k : ℕ) (node : GraphNode) → k < length nodes → node ≡ slice_index_or nodes k node → slice_index_or (map graph_node_of nodes) k no_graph_node ≡ graph_node_of node
seen_at nodes k node l e = get_or-map graph_node_of nodes k node no_graph_node l ∙ ap graph_node_of (sym e)

pub one_more_link : (closure : List CoreForm) (nodes : List GraphNode) (links : List Edges) (k : ℕ) (node : GraphNode) (link : Edges) → length links ≡ k → k < length nodes → node ≡ slice_index_or nodes k node
    → AreLinksOf closure (map graph_node_of nodes) links → IsLinkOf closure (graph_node_of node) link → AreLinksOf closure (map graph_node_of nodes) (links ++ link ∷ [])
one_more_link closure nodes links k node link size l e so_far is j jl = elim (cases_lt j (length links)) [
  | inl b ↦ subst (IsLinkOf closure (slice_index_or (map graph_node_of nodes) j no_graph_node)) (sym (get_or_append_left links (link ∷ []) no_link j b)) (so_far j b)
  | inr b ↦
      let long = length-append links (link ∷ []) in
      let q : j ≡ k = omega (arith, long) in
      subst (λ z. IsLinkOf closure (slice_index_or (map graph_node_of nodes) z no_graph_node) (slice_index_or (links ++ link ∷ []) z no_link)) (sym q)
      (subst (λ g. IsLinkOf closure g (slice_index_or (links ++ link ∷ []) k no_link)) (sym (seen_at nodes k node l e))
      (subst (IsLinkOf closure (graph_node_of node)) (sym (get_or_at links link [] no_link k size)) is))
]

pub all_linked : (cores : List CoreForm) (graph : List GraphNodeForm) (links : List Edges) → length links ≡ length graph → AreLinksOf (closure_of cores) graph links → IsLinked cores graph links
all_linked cores graph links size all = record {
  size = size;
  kids = λ k g e. (link_at k g e).kids;
  fulfilled = λ e k g h. let closure = closure_of cores in subst (λ b. IsTrue b ↔ ((chosen closure g.node.todo ≡ e) × IsTrue (fulfils (node_rule closure g.node)))) (sym (fulfils_get links e k)) ((link_at k g h).fulfilled e);
}
  where
    link_at : (k : ℕ) (g : GraphNodeForm) → slice_get graph k ≡ Some g → IsLinkOf (closure_of cores) g (slice_index_or links k no_link)
    link_at k g e = let r = get_at graph k g no_graph_node e in let l = r.0 in subst (λ h. IsLinkOf (closure_of cores) h (slice_index_or links k no_link)) r.1 (all k (omega (arith, size, l)))

-- ---- what a node of a whole graph has
kids_few : (closure : List CoreForm) (full : List ℕ) (n : NodeForm) (r : Rule) → length (kids_by closure full n r) ≤ 2
kids_few closure full n clash = omega arith
kids_few closure full n step = omega arith
kids_few closure full n (one c) = omega arith
kids_few closure full n (two c d) = omega arith
kids_few closure full n (fulfil_only c) = omega arith
kids_few closure full n (wait_only c) = omega arith
kids_few closure full n (fulfil_or_wait c d) = omega arith

module _ (cores : List CoreForm) (nodes : List GraphNode) (whole : (sizes : List ℕ) × IsWhole sizes cores (map graph_node_of nodes)) (k : ℕ) (node : GraphNode) (l : k < length nodes) (e : node ≡ slice_index_or nodes k node) where
  abbrev graph : List GraphNodeForm
  graph = map graph_node_of nodes

  here : slice_get graph k ≡ Some (graph_node_of node)
  here = get_of graph k no_graph_node (omega (arith, length-map nodes graph_node_of)) ∙ ap Some (seen_at nodes k node l e)

  pub todo_below : AreNumbersBelow (length (closure_of cores)) node.node.todo
  todo_below =
      let n = (graph_node_of node).node in
      let r = get_at (nodes_in graph) k n n (node_at_place graph k (graph_node_of node) here) in
      (reached_of_query whole.0 cores n (subst (IsReached whole.0 cores) r.1 (whole.1.are.reached k n r.0))).todo_below

  pub few_kids : length node.kids.items ≤ 2
  few_kids =
      let closure = closure_of cores in
      let n = (graph_node_of node).node in
      let c = held_count graph node.kids.items (kids closure (full_of whole.0) n) (whole.1.kids k (graph_node_of node) here) in
      let f = kids_few closure (full_of whole.0) n (node_rule closure n) in
      omega (arith, c, f)
