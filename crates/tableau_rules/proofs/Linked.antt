-- A whole graph by its links: an until goes on from a place to its kids, and each place is reached from the first.
use Rattle.std.proofs.Common.{◌≡◌, ◌≢◌, ℕ, zero, suc, ◌<◌, ◌⊎◌, true, ◌&&◌, List, [], ◌∷◌, IsTrue, Some, length, refl, inl, inr, sym, ap, subst, ◌∙◌, arith}
use Rattle.std.specs.Prelude.{slice_get, slice_index_or, AllPairs, Contains}
use Rattle.std.specs.List.{AllByRecursion as Each}
use Rattle.std.proofs.lemmas.Bool.{cases_order}
use Rattle.state_space.specs.Members.{full_of}
use Rattle.bound_unfolding.specs.CoreForm.{CoreForm}
use Rattle.formula_table.specs.Closures.{formula_at, closure_of}
use Rattle.tableau_rules.specs.declared.edges.Edges.{Edges}
use Rattle.tableau_rules.specs.Words.{is_given}
use Rattle.tableau_rules.specs.Nodes.{NodeForm, carries, kids}
use Rattle.tableau_rules.specs.Certificates.{is_until}
use Rattle.tableau_rules.specs.Walks.{no_node}
use Rattle.tableau_rules.specs.Graphs.{IsReached, root, kid, GraphNodeForm, nodes_in, PlacesHold, IsWhole}
use Rattle.tableau_rules.specs.Links.{Among, IsHead, kids_at, fulfils_at, carries_at, no_link, InRange, IsLinked, PlaceReached, start, more}
use Rattle.formula_table.proofs.Tests.{and_true, and_intro}
use Rattle.tableau_rules.proofs.Lists.{AnyOf, any_from_of, any_at}
use Rattle.tableau_rules.proofs.Carrying.{carrying_law}

abbrev pub no_graph_node : GraphNodeForm
no_graph_node = record { node = no_node; kids = [] }

-- ---- what is at a place
pub get_at : {X : Type 0} (xs : List X) (k : ℕ) (x d : X) → slice_get xs k ≡ Some x → (k < length xs) × (slice_index_or xs k d ≡ x)
get_at [] k x d e = absurd (cc)
get_at (y ∷ ys) zero x d e = let q : y ≡ x = cc in (omega arith, q)
get_at (y ∷ ys) (suc k) x d e = let r = get_at ys k x d e in let l = r.0 in (omega (arith, l), r.1)

pub get_of : {X : Type 0} (xs : List X) (k : ℕ) (d : X) → k < length xs → slice_get xs k ≡ Some (slice_index_or xs k d)
get_of [] k d l = absurd (omega arith)
get_of (y ∷ ys) zero d l = refl
get_of (y ∷ ys) (suc k) d l = get_of ys k d (omega arith)

pub get_same : {X : Type 0} (x y : X) → Some x ≡ Some y → x ≡ y
get_same x y e = cc

pub node_at_place : (graph : List GraphNodeForm) (k : ℕ) (g : GraphNodeForm) → slice_get graph k ≡ Some g → slice_get (nodes_in graph) k ≡ Some g.node
node_at_place [] k g e = absurd (cc)
node_at_place (h ∷ hs) zero g e = let q : h ≡ g = cc in ap (λ (x : GraphNodeForm). Some x.node) q
node_at_place (h ∷ hs) (suc k) g e = node_at_place hs k g e

pub place_of_node : (graph : List GraphNodeForm) (k : ℕ) (n : NodeForm) → slice_get (nodes_in graph) k ≡ Some n → (g : GraphNodeForm) × (slice_get graph k ≡ Some g) × (g.node ≡ n)
place_of_node [] k n e = absurd (cc)
place_of_node (h ∷ hs) zero n e = let q : h.node ≡ n = cc in (h, refl, q)
place_of_node (h ∷ hs) (suc k) n e = place_of_node hs k n e

-- no node stands at two places
pub same_place : (ns : List NodeForm) (i j : ℕ) (n : NodeForm) → AllPairs (λ a b. a ≢ b) ns → slice_get ns i ≡ Some n → slice_get ns j ≡ Some n → i ≡ j
same_place ns i j n apart e f =
    let x = get_at ns i n n e in
    let y = get_at ns j n n f in
    elim (cases_order i j) [
      | inl z ↦ z
      | inr (inl z) ↦ absurd (apart i j n z y.0 (x.1 ∙ sym y.1))
      | inr (inr z) ↦ absurd (apart j i n z x.0 (y.1 ∙ sym x.1))
    ]

-- ---- places that hold nodes
pub held_at : (graph : List GraphNodeForm) (ps : List ℕ) (ns : List NodeForm) (p : ℕ) → PlacesHold graph ps ns → Among p ps → (m : NodeForm) × AnyOf (λ n. m ≡ n) ns × (slice_get (nodes_in graph) p ≡ Some m)
held_at graph [] ns p h a = absurd a
held_at graph (q ∷ qs) [] p h a = absurd h
held_at graph (q ∷ qs) (n ∷ ns) p h a = elim a [
  | inl e ↦ (n, inl refl, ap (slice_get (nodes_in graph)) e ∙ h.0)
  | inr z ↦ let r = held_at graph qs ns p h.1 z in (r.0, inr r.1, r.2)
]

held_from : (graph : List GraphNodeForm) (ps : List ℕ) (ns : List NodeForm) (m : NodeForm) → PlacesHold graph ps ns → AnyOf (λ n. m ≡ n) ns → (p : ℕ) × Among p ps × (slice_get (nodes_in graph) p ≡ Some m)
held_from graph ps [] m h s = absurd s
held_from graph [] (n ∷ ns) m h s = absurd h
held_from graph (q ∷ qs) (n ∷ ns) m h s = elim s [
  | inl e ↦ (q, inl refl, h.0 ∙ ap Some (sym e))
  | inr z ↦ let r = held_from graph qs ns m h.1 z in (r.0, inr r.1, r.2)
]

held_first : (graph : List GraphNodeForm) (ps : List ℕ) (ns : List NodeForm) (m : NodeForm) → PlacesHold graph ps ns → slice_get ns 0 ≡ Some m → (p : ℕ) × IsHead p ps × (slice_get (nodes_in graph) p ≡ Some m)
held_first graph ps [] m h e = absurd (cc)
held_first graph [] (n ∷ ns) m h e = absurd h
held_first graph (q ∷ qs) (n ∷ ns) m h e = (q, refl, h.0 ∙ e)

held_below : (graph : List GraphNodeForm) (ps : List ℕ) (ns : List NodeForm) → PlacesHold graph ps ns → Each (λ p. p < length graph) ps
held_below graph [] ns h = tt
held_below graph (q ∷ qs) [] h = absurd h
held_below graph (q ∷ qs) (n ∷ ns) h =
    let r = place_of_node graph q n h.0 in ((get_at graph q r.0 r.0 r.1).0, held_below graph qs ns h.1)

pub held_count : (graph : List GraphNodeForm) (ps : List ℕ) (ns : List NodeForm) → PlacesHold graph ps ns → length ps ≡ length ns
held_count graph [] [] h = refl
held_count graph [] (n ∷ ns) h = absurd h
held_count graph (q ∷ qs) [] h = absurd h
held_count graph (q ∷ qs) (n ∷ ns) h = let r = held_count graph qs ns h.1 in omega (arith, r)

contains_of : (ns : List NodeForm) (m : NodeForm) → AnyOf (λ n. m ≡ n) ns → Contains ns m
contains_of ns m s = let r = any_from_of (λ n. m ≡ n) ns s in (r.0, r.2, subst (λ z. slice_index_or ns r.0 z ≡ z) (sym r.4) r.3)

-- ---- whether an until is carried or fulfilled, by what is at the place
pub carries_get : (closure : List CoreForm) (graph : List GraphNodeForm) (e k : ℕ) (g : GraphNodeForm) → slice_get graph k ≡ Some g
    → carries_at closure graph e k ≡ (is_until (formula_at closure e) && carries e g.node)
unfolding carries_at
carries_get closure graph e k g h = ap (λ (x : GraphNodeForm). is_until (formula_at closure e) && carries e x.node) (get_at graph k g no_graph_node h).1

pub fulfils_get : (links : List Edges) (e k : ℕ) → fulfils_at links e k ≡ is_given (slice_index_or links k no_link).fulfils e
unfolding fulfils_at
fulfils_get links e k = refl

module _ (sizes : List ℕ) (cores : List CoreForm) (graph : List GraphNodeForm) (links : List Edges) (whole : IsWhole sizes cores graph) (linked : IsLinked cores graph links) where
  abbrev closure : List CoreForm
  closure = closure_of cores

  abbrev full : List ℕ
  full = full_of sizes

  pub kids_held : (k : ℕ) (g : GraphNodeForm) → slice_get graph k ≡ Some g → PlacesHold graph (kids_at links k) (kids closure full g.node)
  kids_held k g e = subst (λ ps. PlacesHold graph ps (kids closure full g.node)) (sym (linked.kids k g e)) (whole.kids k g e)

  pub at_place : (k : ℕ) → k < length links → slice_get graph k ≡ Some (slice_index_or graph k no_graph_node)
  at_place k l = let s = linked.size in get_of graph k no_graph_node (omega (arith, s, l))

  pub in_range : InRange links
  in_range k l =
      let g = slice_index_or graph k no_graph_node in
      subst (λ n. Each (λ p. p < n) (kids_at links k)) (sym linked.size) (held_below graph (kids_at links k) (kids closure full g.node) (kids_held k g (at_place k l)))

  -- an until that is carried is carried by each kid, but for the first where it is fulfilled
  pub goes_on : (e k p : ℕ) → k < length links → carries_at closure graph e k ≡ true → Among p (kids_at links k)
      → (carries_at closure graph e p ≡ true) ⊎ ((fulfils_at links e k ≡ true) × IsHead p (kids_at links k))
  goes_on e k p l c a =
      let g = slice_index_or graph k no_graph_node in
      let here = at_place k l in
      let held = kids_held k g here in
      let both = and_true (is_until (formula_at closure e)) (carries e g.node) (sym (carries_get closure graph e k g here) ∙ c) in
      let m = held_at graph (kids_at links k) (kids closure full g.node) p held a in
      elim (carrying_law sizes cores e both.0 g.node m.0 both.1 (contains_of (kids closure full g.node) m.0 m.1)) [
        | inl f ↦
            let h = held_first graph (kids_at links k) (kids closure full g.node) m.0 held f.first in
            let same = same_place (nodes_in graph) p h.0 m.0 whole.are.distinct m.2 h.2 in
            inr ((linked.fulfilled e k g here).1 (f.turn, f.can), subst (λ z. IsHead z (kids_at links k)) (sym same) h.1)
        | inr y ↦
            let q = place_of_node graph p m.0 m.2 in
            inl (carries_get closure graph e p q.0 q.1 ∙ and_intro (is_until (formula_at closure e)) (carries e q.0.node) both.0 (subst (λ n. IsTrue (carries e n)) (sym q.2) y))
      ]

  -- each node that is reached stands at a place that is
  reached_at : (n : NodeForm) → IsReached sizes cores n → (k : ℕ) × (slice_get (nodes_in graph) k ≡ Some n) × PlaceReached links k
  reached_at n root = (0, whole.root, start)
  reached_at m (kid n _ r c) =
      let k = reached_at n r in
      let g = place_of_node graph k.0 n k.1 in
      let held = subst (λ x. PlacesHold graph (kids_at links k.0) (kids closure full x)) g.2 (kids_held k.0 g.0 g.1) in
      let p = held_from graph (kids_at links k.0) (kids closure full n) m held (any_at (λ x. m ≡ x) (kids closure full n) c.0 m c.1 c.2 refl) in
      (p.0, p.2, more k.0 p.0 k.2 p.1)

  pub all_reached : (k : ℕ) → k < length links → PlaceReached links k
  all_reached k l =
      let g = slice_index_or graph k no_graph_node in
      let here = node_at_place graph k g (at_place k l) in
      let inside = get_at (nodes_in graph) k g.node g.node here in
      let r = reached_at g.node (subst (IsReached sizes cores) inside.1 (whole.are.reached k g.node inside.0)) in
      subst (PlaceReached links) (same_place (nodes_in graph) r.0 k g.node whole.are.distinct r.1 here) r.2
