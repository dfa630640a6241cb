-- Nodes and rows that are taken from the end on, into a graph whose order is turned round.
use Rattle.std.proofs.Common.{◌≡◌, ℕ, List, [], ◌∷◌, ◌++◌, length, map, refl, sym, ap, ap₂, ◌∙◌, arith, length-append, append_assoc}
use Rattle.std.specs.Prelude.{reverse}
use Rattle.std.proofs.lemmas.List.{reverse-append, map-append, append-nil}
use Rattle.smallvec.specs.SmallVec.{SmallVec}
use Rattle.tableau_rules.specs.declared.node.Node.{Node}
use Rattle.tableau_rules.specs.declared.graph.GraphNode.{GraphNode}
use Rattle.tableau_rules.specs.Nodes.{NodeForm}
use Rattle.tableau_rules.specs.NodeView.{node_of}
use Rattle.tableau_rules.specs.Graphs.{GraphNodeForm}
use Rattle.tableau_rules.specs.GraphView.{graph_node_of}
use Rattle.tableau_rules.proofs.Sizes.{map_length}
use Rattle.tableau_graph.specs.Joined.{places_of, rows_in, join}

-- what is left, and then what is taken, make all
pub record IsJoining (nodes : List Node) (rows : List (SmallVec ℕ)) (graph : List GraphNode) (all : List GraphNodeForm) : Type 0 where
  pub same : length nodes ≡ length rows
  pub joined : join (map node_of nodes) (rows_in rows) ++ map graph_node_of (reverse graph) ≡ all

join_push : (ns : List NodeForm) (rs : List (List ℕ)) (n : NodeForm) (r : List ℕ) → length ns ≡ length rs → join (ns ++ n ∷ []) (rs ++ r ∷ []) ≡ join ns rs ++ record { node = n; kids = r } ∷ []
join_push [] [] n r e = refl
join_push [] (s ∷ rs) n r e = absurd (omega (arith, e))
join_push (m ∷ ns) [] n r e = absurd (omega (arith, e))
join_push (m ∷ ns) (s ∷ rs) n r e = ap (λ xs. record { node = m; kids = s } ∷ xs) (join_push ns rs n r (omega (arith, e)))

join_none : (ns : List NodeForm) → join ns [] ≡ []
join_none [] = refl
join_none (n ∷ ns) = refl

pub joining_none : (nodes : List Node) (rows : List (SmallVec ℕ)) (graph : List GraphNode) → length nodes ≡ length rows → graph ≡ [] → IsJoining nodes rows graph (join (map node_of nodes) (rows_in rows))
joining_none nodes rows graph e f = record { same = e; joined = ap (λ g. join (map node_of nodes) (rows_in rows) ++ map graph_node_of (reverse g)) f ∙ append-nil (join (map node_of nodes) (rows_in rows)) }

pub joining_more : (nodes left : List Node) (rows rest : List (SmallVec ℕ)) (graph : List GraphNode) (all : List GraphNodeForm) (g : GraphNode) → nodes ≡ left ++ g.node ∷ [] → rows ≡ rest ++ g.kids ∷ [] → IsJoining nodes rows graph all
    → IsJoining left rest (graph ++ g ∷ []) all
joining_more nodes left rows rest graph all g e f j =
    let s = j.same in
    let a = ap (λ xs. length xs) e ∙ length-append left (g.node ∷ []) in
    let b = ap (λ xs. length xs) f ∙ length-append rest (g.kids ∷ []) in
    let same : length left ≡ length rest = omega (arith, s, a, b) in
    let ns = map node_of left in
    let rs = rows_in rest in
    let m = map_length node_of left in
    let n = map_length places_of rest in
    let left_is = ap₂ (λ xs ys. join (map node_of xs) (rows_in ys)) e f ∙ ap₂ join (map-append node_of left (g.node ∷ [])) (map-append places_of rest (g.kids ∷ [])) ∙ join_push ns rs (node_of g.node) g.kids.items (omega (arith, same, m, n)) in
    record {
      same = same;
      joined = ap (λ xs. join ns rs ++ map graph_node_of xs) (reverse-append graph (g ∷ [])) ∙ sym (append_assoc (join ns rs) (graph_node_of g ∷ []) (map graph_node_of (reverse graph)))
          ∙ ap (λ xs. xs ++ map graph_node_of (reverse graph)) (sym left_is) ∙ j.joined;
    }

pub joining_end : (nodes : List Node) (rows : List (SmallVec ℕ)) (graph : List GraphNode) (all : List GraphNodeForm) → rows ≡ [] → IsJoining nodes rows graph all → map graph_node_of (reverse graph) ≡ all
joining_end nodes rows graph all e j = sym (ap (λ xs. xs ++ map graph_node_of (reverse graph)) (ap (λ rs. join (map node_of nodes) (rows_in rs)) e ∙ join_none (map node_of nodes))) ∙ j.joined
