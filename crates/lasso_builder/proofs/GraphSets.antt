-- A surviving set of a graph survives among the places of its links, and the kids of a place are the kids of its node.
use Rattle.std.proofs.Common.{◌≡◌, ℕ, zero, suc, ◌<◌, List, [], ◌∷◌, length, map, get_or, slice_get, Some, Bool, true, false, ◌&&◌, refl, sym, ap, ap₂, subst, ◌∙◌, inl, inr, arith, IsTrue}
use Rattle.std.specs.Prelude.{Contains}
use Rattle.std.proofs.lemmas.List.{get_or-map, length-map}
use Rattle.std.proofs.lemmas.Option.{slice_get_within, get_or_from_slice_get, slice_get-get_or}
use Rattle.state_space.specs.Members.{full_of}
use Rattle.bound_unfolding.specs.CoreForm.{CoreForm}
use Rattle.formula_table.specs.Closures.{closure_of, formula_at}
use Rattle.tableau_rules.specs.declared.edges.Edges.{Edges}
use Rattle.tableau_rules.specs.Nodes.{NodeForm, carries, kids}
use Rattle.tableau_rules.specs.Certificates.{is_until}
use Rattle.tableau_rules.specs.Graphs.{GraphNodeForm, nodes_in, PlacesHold, IsWhole}
use Rattle.tableau_rules.specs.Surviving.{Stays, LeadsToFulfilment, here, later, Survives}
use Rattle.tableau_rules.specs.Links.{Among, IsHead, kids_at, carries_at, fulfils_at, IsLinked}
use Rattle.tableau_rules.specs.Levels.{Alive, ComesTo, PlacesSurvive}
use Rattle.tableau_rules.specs.Levels.{here as comes_here, later as comes_later}
use Rattle.tableau_rules.specs.Walks.{no_node, FulfilsIn}
use Rattle.lasso_builder.specs.GraphPlaces.{node_in, nodes_at}
use Rattle.tableau_rules.proofs.Linked.{no_graph_node}
use Rattle.tableau_rules.proofs.PlaceTests.{no_both}
use Rattle.std.proofs.lemmas.Bool.{and_parts}

-- ---- places and nodes
among_of : (xs : List ℕ) (k x : ℕ) → k < length xs → get_or xs k x ≡ x → Among x xs
among_of [] k x l e = absurd (omega arith)
among_of (y ∷ ys) zero x l e = inl (sym e)
among_of (y ∷ ys) (suc k) x l e = inr (among_of ys k x (omega arith) e)

head_of : (xs : List ℕ) (x : ℕ) → slice_get xs 0 ≡ Some x → IsHead x xs
head_of [] x h = cc
head_of (y ∷ ys) x h = cc

among_map : (f : ℕ → NodeForm) (xs : List ℕ) (x : ℕ) → Among x xs → Contains (map f xs) (f x)
among_map f [] x h = absurd h
among_map f (y ∷ ys) x h = elim h [
  | inl e ↦ (0, omega arith, ap f (sym e))
  | inr z ↦ let r = among_map f ys x z in let l = r.1 in (suc r.0, omega (arith, l), r.2)
]

head_map : (f : ℕ → NodeForm) (xs : List ℕ) (x : ℕ) → IsHead x xs → slice_get (map f xs) 0 ≡ Some (f x)
head_map f [] x h = absurd h
head_map f (y ∷ ys) x h = ap (λ z. Some (f z)) (sym h)

pub held_node : (graph : List GraphNodeForm) (place : ℕ) (n : NodeForm) → slice_get (nodes_in graph) place ≡ Some n → n ≡ node_in graph place
held_node graph place n h =
    let inside : place < length graph = let l = slice_get_within (nodes_in graph) place n h in let m = length-map graph (λ (g : GraphNodeForm). g.node) in omega (arith, l, m) in
    sym (get_or_from_slice_get (nodes_in graph) place n no_node h) ∙ get_or-map (λ (g : GraphNodeForm). g.node) graph place no_graph_node no_node inside

held_nodes : (graph : List GraphNodeForm) (places : List ℕ) (nodes : List NodeForm) → PlacesHold graph places nodes → nodes ≡ nodes_at graph places
held_nodes graph [] [] h = refl
held_nodes graph [] (n ∷ ns) h = absurd h
held_nodes graph (p ∷ ps) [] h = absurd h
held_nodes graph (p ∷ ps) (n ∷ ns) h = ap₂ (λ m ms. m ∷ ms) (held_node graph p n h.0) (held_nodes graph ps ns h.1)

-- ---- whether an until is carried
pub carried_at : (closure : List CoreForm) (graph : List GraphNodeForm) (e p : ℕ) → carries_at closure graph e p ≡ true → IsTrue (is_until (formula_at closure e)) × IsTrue (carries e (node_in graph p))
unfolding carries_at
carried_at closure graph e p h = and_parts (is_until (formula_at closure e)) (carries e (node_in graph p)) h

pub not_carried : (closure : List CoreForm) (graph : List GraphNodeForm) (e p : ℕ) → IsTrue (is_until (formula_at closure e)) → carries_at closure graph e p ≡ false → ¬ (IsTrue (carries e (node_in graph p)))
unfolding carries_at
not_carried closure graph e p u h = λ c. no_both (is_until (formula_at closure e) && carries e (node_in graph p)) (rw (u, c) refl) h

module _ (cores : List CoreForm) (graph : List GraphNodeForm) (links : List Edges) (linked : IsLinked cores graph links) where
  abbrev closure : List CoreForm
  closure = closure_of cores

  there : (p : ℕ) → p < length links → slice_get graph p ≡ Some (get_or graph p no_graph_node)
  there p l = let s = linked.size in slice_get-get_or graph p no_graph_node (omega (arith, s, l))

  -- ---- a set that survives
  module _ (stays : List Bool) where
    alive_of : (p : ℕ) → Stays stays p → Alive stays p
    alive_of p h = get_or_from_slice_get stays p true false h

    stays_of : (p : ℕ) → p < length stays → Alive stays p → Stays stays p
    stays_of p l h = slice_get-get_or stays p false l ∙ ap (λ b. Some b) h

    comes_to : (e p : ℕ) → LeadsToFulfilment closure graph stays e p → ComesTo links (fulfils_at links e) stays p
    comes_to e p (here _ first g is living turn can first_is first_stays) =
        comes_here p first (alive_of p living) ((linked.fulfilled e p g is).1 (turn, can))
        (subst (IsHead first) (sym (linked.kids p g is)) (head_of g.kids first first_is)) (alive_of first first_stays)
    comes_to e p (later _ next g is living kid leads) =
        comes_later p next (alive_of p living) (subst (Among next) (sym (linked.kids p g is)) (among_of g.kids kid.0 next kid.1 kid.2)) (comes_to e next leads)

    pub places_survive : Survives cores graph stays → PlacesSurvive links (carries_at closure graph) (fulfils_at links) stays
    places_survive s =
        let size : length stays ≡ length links = s.size ∙ sym linked.size in
        record {
          size = size;
          root = alive_of 0 s.root;
          settled = record {
            goes = λ k l a.
                let r = s.goes_on k (get_or graph k no_graph_node) (there k l) (stays_of k (omega (arith, size, l)) a) in
                (r.0, subst (Among r.0) (sym (linked.kids k (get_or graph k no_graph_node) (there k l))) (among_of (get_or graph k no_graph_node).kids r.1.0 r.0 r.1.1 r.1.2), alive_of r.0 r.2);
            fair = λ e k l a c.
                let h = carried_at closure graph e k c in
                comes_to e k (s.fair k (get_or graph k no_graph_node) (there k l) (stays_of k (omega (arith, size, l)) a) e h.0 h.1);
          };
        }

  -- ---- kids
  module _ (sizes : List ℕ) (whole : IsWhole sizes cores graph) where
    abbrev full : List ℕ
    full = full_of sizes

    kids_are : (p : ℕ) → p < length links → kids closure full (node_in graph p) ≡ nodes_at graph (kids_at links p)
    kids_are p l =
        held_nodes graph (get_or graph p no_graph_node).kids (kids closure full (node_in graph p)) (whole.kids p (get_or graph p no_graph_node) (there p l))
        ∙ ap (nodes_at graph) (sym (linked.kids p (get_or graph p no_graph_node) (there p l)))

    pub kid_in : (p q : ℕ) → p < length links → Among q (kids_at links p) → Contains (kids closure full (node_in graph p)) (node_in graph q)
    kid_in p q l h = subst (λ ns. Contains ns (node_in graph q)) (sym (kids_are p l)) (among_map (node_in graph) (kids_at links p) q h)

    pub fulfils_in : (e p q : ℕ) → p < length links → fulfils_at links e p ≡ true → IsHead q (kids_at links p) → FulfilsIn closure full e (node_in graph p) (node_in graph q)
    fulfils_in e p q l f h =
        let c = (linked.fulfilled e p (get_or graph p no_graph_node) (there p l)).0 f in
        record { turn = c.0; can = c.1; first = subst (λ ns. slice_get ns 0 ≡ Some (node_in graph q)) (sym (kids_are p l)) (head_map (node_in graph) (kids_at links p) q h) }
