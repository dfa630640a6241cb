-- From a whole graph to its places, and from the places that survive to its nodes.
use Rattle.std.proofs.Common.{◌≡◌, ℕ, zero, suc, ◌<◌, ◌^◌, Bool, true, false, not, ◌&&◌, List, [], ◌∷◌, IsTrue, Some, length, refl, inl, inr, sym, ap, subst, ◌∙◌, arith, true≢false}
use Rattle.std.specs.Prelude.{slice_get, slice_index_or, Contains}
use Rattle.std.proofs.lemmas.List.{length-map}
use Rattle.state_space.specs.Members.{full_of}
use Rattle.bound_unfolding.specs.CoreForm.{CoreForm}
use Rattle.formula_table.specs.Closures.{formula_at, closure_of}
use Rattle.tableau_rules.specs.declared.edges.Edges.{Edges}
use Rattle.tableau_rules.specs.Rules.{Rule, clash, step, one, two, fulfil_only, wait_only, fulfil_or_wait, is_clash}
use Rattle.tableau_rules.specs.Nodes.{NodeForm, carries, node_rule, kids_by, kids, root_of}
use Rattle.tableau_rules.specs.Certificates.{is_until}
use Rattle.tableau_rules.specs.Graphs.{GraphNodeForm, nodes_in, IsWhole}
use Rattle.tableau_rules.specs.Surviving.{Stays, LeadsToFulfilment, here as leads_here, later as leads_later, Survives}
use Rattle.tableau_rules.specs.QueryView.{cores_in}
use Rattle.tableau_rules.specs.GraphView.{graph_of}
use Rattle.tableau_elimination.specs.declared.linked_graph.LinkedGraph.{LinkedGraph}
use Rattle.tableau_rules.specs.Links.{Among, IsHead, kids_at, fulfils_at, carries_at, IsLinked}
use Rattle.tableau_rules.specs.Levels.{Alive, ComesTo, here, later, PlacesSurvive}
use Rattle.formula_table.proofs.Tests.{and_true, and_intro}
use Rattle.tableau_rules.proofs.Lists.{AnyOf}
use Rattle.tableau_rules.proofs.Linked.{no_graph_node, get_at, get_of, held_at, kids_held, carries_get, in_range, goes_on, all_reached}
use Rattle.tableau_elimination.specs.Marks.{IsConnected, IsReady}
use Rattle.tableau_rules.proofs.Closing.{until_below}

pub connected : (sizes : List ℕ) (cores : List CoreForm) (graph : List GraphNodeForm) (links : List Edges) → IsWhole sizes cores graph → IsLinked cores graph links
    → IsConnected links (carries_at (closure_of cores) graph) (fulfils_at links)
connected sizes cores graph links whole linked =
    let root = root_of (closure_of cores) (full_of sizes) cores in
    let first = (get_at (nodes_in graph) 0 root root whole.root).0 in
    let size = linked.size in
    record {
      some = omega (arith, first, size, length-map graph (λ (g : GraphNodeForm). g.node));
      in_range = in_range sizes cores graph links whole linked;
      reached = all_reached sizes cores graph links whole linked;
      goes_on = goes_on sizes cores graph links whole linked;
    }

pub ready : (linked_graph : LinkedGraph) (sizes : List ℕ) → length (graph_of linked_graph.graph.now) < 2 ^ 32 → IsWhole sizes (cores_in linked_graph.query.now) (graph_of linked_graph.graph.now)
    → IsLinked (cores_in linked_graph.query.now) (graph_of linked_graph.graph.now) linked_graph.links.now → IsReady linked_graph
ready linked_graph sizes few whole linked =
    let size = linked.size in
    record {
      few = omega (arith, few, size);
      size = sym size;
      connected = connected sizes (cores_in linked_graph.query.now) (graph_of linked_graph.graph.now) linked_graph.links.now whole linked;
    }

-- ---- what carries is an until of the closure
pub carried_below : (closure : List CoreForm) (graph : List GraphNodeForm) (e k : ℕ) → carries_at closure graph e k ≡ true → e < length closure
unfolding carries_at
carried_below closure graph e k h =
    until_below closure e (and_true (is_until (formula_at closure e)) (carries e (slice_index_or graph k no_graph_node).node) h).0

pub none_carries : (closure : List CoreForm) (graph : List GraphNodeForm) (e k : ℕ) → is_until (formula_at closure e) ≡ false → carries_at closure graph e k ≡ false
unfolding carries_at
none_carries closure graph e k h = ap (λ b. b && carries e (slice_index_or graph k no_graph_node).node) h

-- ---- a node clashes exactly where it has no kid
pub has_kid : (closure : List CoreForm) (full : List ℕ) (n m : NodeForm) (r : Rule) → AnyOf (λ k. m ≡ k) (kids_by closure full n r) → IsTrue (not (is_clash r))
has_kid closure full n m clash h = absurd h
has_kid closure full n m step h = refl
has_kid closure full n m (one c) h = refl
has_kid closure full n m (two c d) h = refl
has_kid closure full n m (fulfil_only c) h = refl
has_kid closure full n m (wait_only c) h = refl
has_kid closure full n m (fulfil_or_wait c d) h = refl

pub has_none : (closure : List CoreForm) (full : List ℕ) (n : NodeForm) (r : Rule) → length (kids_by closure full n r) ≡ 0 → IsTrue (is_clash r)
has_none closure full n clash h = refl
has_none closure full n step h = absurd (omega (arith, h))
has_none closure full n (one c) h = absurd (omega (arith, h))
has_none closure full n (two c d) h = absurd (omega (arith, h))
has_none closure full n (fulfil_only c) h = absurd (omega (arith, h))
has_none closure full n (wait_only c) h = absurd (omega (arith, h))
has_none closure full n (fulfil_or_wait c d) h = absurd (omega (arith, h))

-- ---- sets of places
alive_stays : (alive : List Bool) (k : ℕ) → Alive alive k → Stays alive k
alive_stays [] k h = absurd (true≢false (sym h))
alive_stays (x ∷ xs) zero h = ap Some h
alive_stays (x ∷ xs) (suc k) h = alive_stays xs k h

stays_alive : (alive : List Bool) (k : ℕ) → Stays alive k → Alive alive k
stays_alive alive k h = (get_at alive k true false h).1

contains_among : (ps : List ℕ) (p : ℕ) → Among p ps → Contains ps p
contains_among [] p a = absurd a
contains_among (q ∷ qs) p a = elim a [
  | inl e ↦ (0, omega arith, sym e)
  | inr z ↦ let r = contains_among qs p z in let l = r.1 in (suc r.0, omega (arith, l), r.2)
]

first_is : (ps : List ℕ) (p : ℕ) → IsHead p ps → slice_get ps 0 ≡ Some p
first_is [] p h = absurd h
first_is (q ∷ qs) p h = ap Some (sym h)

module _ (sizes : List ℕ) (cores : List CoreForm) (graph : List GraphNodeForm) (links : List Edges) (whole : IsWhole sizes cores graph) (linked : IsLinked cores graph links)
    (alive : List Bool) (size : length alive ≡ length graph) where
  abbrev closure : List CoreForm
  closure = closure_of cores

  -- the node at a living place
  node_there : (k : ℕ) → Alive alive k → slice_get graph k ≡ Some (slice_index_or graph k no_graph_node)
  node_there k a = let l = (get_at alive k true false (alive_stays alive k a)).0 in get_of graph k no_graph_node (omega (arith, l, size))

  leads : (e k : ℕ) → ComesTo links (fulfils_at links e) alive k → LeadsToFulfilment closure graph alive e k
  leads e k (here _ p a f h b) =
      let g = slice_index_or graph k no_graph_node in
      let there = node_there k a in
      let turn = (linked.fulfilled e k g there).0 f in
      leads_here k p g there (alive_stays alive k a) turn.0 turn.1 (first_is g.kids p (subst (IsHead p) (linked.kids k g there) h)) (alive_stays alive p b)
  leads e k (later _ p a h c) =
      let g = slice_index_or graph k no_graph_node in
      let there = node_there k a in
      leads_later k p g there (alive_stays alive k a) (contains_among g.kids p (subst (Among p) (linked.kids k g there) h)) (leads e p c)

  pub survives : PlacesSurvive links (carries_at closure graph) (fulfils_at links) alive → Survives cores graph alive
  survives s = record {
    size = size;
    root = alive_stays alive 0 s.root;
    no_clash = λ k g h st.
        let kid = s.settled.goes k (inside k g h) (stays_alive alive k st) in
        let held = held_at graph (kids_at links k) (kids closure (full_of sizes) g.node) kid.0 (kids_held sizes cores graph links whole linked k g h) kid.1 in
        has_kid closure (full_of sizes) g.node held.0 (node_rule closure g.node) held.1;
    goes_on = λ k g h st.
        let kid = s.settled.goes k (inside k g h) (stays_alive alive k st) in
        (kid.0, contains_among g.kids kid.0 (subst (Among kid.0) (linked.kids k g h) kid.1), alive_stays alive kid.0 kid.2);
    fair = λ k g h st e u c.
        leads e k (s.settled.fair e k (inside k g h) (stays_alive alive k st) (carries_get closure graph e k g h ∙ and_intro (is_until (formula_at closure e)) (carries e g.node) u c));
  }
    where
      inside : (k : ℕ) (g : GraphNodeForm) → slice_get graph k ≡ Some g → k < length links
      inside k g h = let l = (get_at graph k g g h).0 in let z = linked.size in omega (arith, l, z)
