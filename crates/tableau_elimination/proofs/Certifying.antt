-- Right marks of all places make a valid certificate.
use Rattle.std.proofs.Common.{◌≡◌, ℕ, ◌<◌, ◌⊎◌, not, List, [], ◌∷◌, IsTrue, Some, length, get_or, refl, inl, inr, sym, ap, subst, ◌∙◌, arith}
use Rattle.std.specs.Prelude.{slice_get, slice_index_or}
use Rattle.std.specs.List.{AllByRecursion as Each}
use Rattle.std.proofs.lemmas.List.Elements.{All-from_recursion}
use Rattle.state_space.specs.Members.{full_of}
use Rattle.bound_unfolding.specs.CoreForm.{CoreForm}
use Rattle.formula_table.specs.Closures.{formula_at, closure_of}
use Rattle.tableau_rules.specs.declared.edges.Edges.{Edges}
use Rattle.tableau_rules.specs.Rules.{is_clash}
use Rattle.tableau_rules.specs.Nodes.{NodeForm, carries, node_rule, kids, root_of}
use Rattle.tableau_rules.specs.Certificates.{wait, CertNodeForm, HoldsKids, EachKid, FirstKid, is_until, Waits, IsEliminated, IsOfQuery, IsValid}
use Rattle.tableau_rules.specs.Graphs.{IsReached, GraphNodeForm, nodes_in, PlacesHold, IsWhole}
use Rattle.tableau_rules.specs.Links.{Among, IsHead, kids_at, fulfils_at, carries_at, IsLinked}
use Rattle.formula_table.proofs.Tests.{and_true}
use Rattle.tableau_rules.proofs.QueryNodes.{reached_of_query}
use Rattle.tableau_rules.proofs.Linked.{no_graph_node, get_at, get_of, get_same, node_at_place, place_of_node, held_at, held_count, carries_get}
use Rattle.tableau_elimination.specs.declared.cause.Cause.{Cause}
use Rattle.tableau_elimination.specs.declared.cause.Cause.TheVariants.{Dead, Wait}
use Rattle.tableau_elimination.specs.Marks.{cause_at, IsRight, AreRight}
use Rattle.tableau_elimination.specs.CertNodes.{reason_by, cert_node_by, IsCertOf}
use Rattle.tableau_elimination.proofs.Places.{has_kid, has_none}

module _ (sizes : List ℕ) (cores : List CoreForm) (graph : List GraphNodeForm) (links : List Edges) (whole : IsWhole sizes cores graph) (linked : IsLinked cores graph links)
    (ranks : List ℕ) (causes : List Cause) (right : AreRight links (carries_at (closure_of cores) graph) (fulfils_at links) ranks causes)
    (cert : List CertNodeForm) (is : IsCertOf graph ranks causes cert) where
  abbrev closure : List CoreForm
  closure = closure_of cores

  abbrev full : List ℕ
  full = full_of sizes

  abbrev entry : ℕ → GraphNodeForm → CertNodeForm
  entry k g = cert_node_by g (get_or ranks k 0) (cause_at causes k)

  -- what stands at a place of the certificate
  only : (k : ℕ) (c : CertNodeForm) → slice_get cert k ≡ Some c → (g : GraphNodeForm) × (slice_get graph k ≡ Some g) × (c ≡ entry k g)
  only k c e =
      let l = (get_at cert k c c e).0 in
      let size = is.size in
      let g = slice_index_or graph k no_graph_node in
      let there = get_of graph k no_graph_node (omega (arith, l, size)) in
      (g, there, get_same c (entry k g) (sym e ∙ is.nodes k g there))

  hold : (ps : List ℕ) (ns : List NodeForm) → PlacesHold graph ps ns → HoldsKids cert ps ns
  hold [] [] h = tt
  hold [] (n ∷ ns) h = absurd h
  hold (p ∷ ps) [] h = absurd h
  hold (p ∷ ps) (n ∷ ns) h = let r = place_of_node graph p n h.0 in ((entry p r.0, is.nodes p r.0 r.1, r.2), hold ps ns h.1)

  each_kid : (P : CertNodeForm → Type 0) (ps : List ℕ) → ((p : ℕ) → Among p ps → (g : GraphNodeForm) → P (entry p g)) → Each (λ p. (d : CertNodeForm) → slice_get cert p ≡ Some d → P d) ps
  each_kid P [] h = tt
  each_kid P (p ∷ ps) h = ((λ d s. let o = only p d s in subst P (sym o.2) (h p (inl refl) o.0)), each_kid P ps (λ q a. h q (inr a)))

  kids_all : (P : CertNodeForm → Type 0) (ps : List ℕ) → ((p : ℕ) → Among p ps → (g : GraphNodeForm) → P (entry p g)) → EachKid cert P ps
  kids_all P ps h = All-from_recursion (λ p. (d : CertNodeForm) → slice_get cert p ≡ Some d → P d) ps (each_kid P ps h)

  first_kid : (P : CertNodeForm → Type 0) (ps : List ℕ) → ((p : ℕ) → IsHead p ps → (g : GraphNodeForm) → P (entry p g)) → FirstKid cert P ps
  first_kid P [] h = tt
  first_kid P (p ∷ ps) h = λ d s. let o = only p d s in subst P (sym o.2) (h p refl o.0)

  module _ (k : ℕ) (g : GraphNodeForm) (there : slice_get graph k ≡ Some g) where
    kids_are : kids_at links k ≡ g.kids
    kids_are = linked.kids k g there

    -- a node with a kid does not clash
    no_clash : (p : ℕ) → Among p g.kids → IsTrue (not (is_clash (node_rule closure g.node)))
    no_clash p a =
        let held = held_at graph g.kids (kids closure full g.node) p (whole.kids k g there) a in
        has_kid closure full g.node held.0 (node_rule closure g.node) held.1

    waiting : (e : ℕ) → IsRight links (carries_at closure graph) (fulfils_at links) ranks causes k (Wait e) → Waits closure cert (entry k g) e
    waiting e h =
        let both = and_true (is_until (formula_at closure e)) (carries e g.node) (sym (carries_get closure graph e k g there) ∙ h.0) in
        let to_links : (p : ℕ) → Among p g.kids → Among p (kids_at links k) = λ p a. subst (Among p) (sym kids_are) a in
        record {
          until = both.0;
          carried = both.1;
          goes_on = no_clash h.1.0 (subst (Among h.1.0) kids_are h.1.1);
          stays = kids_all (λ d. (d.rank < get_or ranks k 0) ⊎ ((d.rank ≡ get_or ranks k 0) × (d.reason ≡ wait e))) g.kids
              (λ p a q. elim (h.2 p (to_links p a)) [ inl l ↦ inl l | inr s ↦ inr (s.0, ap (λ c. reason_by c q.kids) s.1) ]);
          fulfilled = λ turn can. first_kid (λ d. d.rank < get_or ranks k 0) g.kids
              (λ p a q. h.3 ((linked.fulfilled e k g there).1 (turn, can)) p (subst (IsHead p) (sym kids_are) a));
        }

    by_cause : (cause : Cause) (ps : List ℕ) → ps ≡ g.kids → IsRight links (carries_at closure graph) (fulfils_at links) ranks causes k cause → IsEliminated closure cert (entry k g) (reason_by cause ps)
    by_cause (Wait e) ps q h = waiting e h
    by_cause Dead [] q h =
        let count = held_count graph g.kids (kids closure full g.node) (whole.kids k g there) in
        let none : length g.kids ≡ 0 = sym (ap (λ ps. length ps) q) in
        has_none closure full g.node (node_rule closure g.node) (omega (arith, count, none))
    by_cause Dead (p ∷ ps) q h = record {
      goes_on = no_clash p (subst (Among p) q (inl refl));
      lower = kids_all (λ d. d.rank < get_or ranks k 0) g.kids (λ r a x. h r (subst (Among r) (sym kids_are) a));
    }

    of_query : IsOfQuery sizes closure g.node
    of_query =
        let r = get_at (nodes_in graph) k g.node g.node (node_at_place graph k g there) in
        reached_of_query sizes cores g.node (subst (IsReached sizes cores) r.1 (whole.are.reached k g.node r.0))

    eliminated : IsEliminated closure cert (entry k g) (entry k g).reason
    eliminated =
        let l = (get_at graph k g g there).0 in
        let size = linked.size in
        by_cause (cause_at causes k) g.kids refl (right.right k (omega (arith, l, size)))

  pub valid_cert : IsValid sizes cores cert
  valid_cert =
      let root = root_of closure full cores in
      let first = place_of_node graph 0 root whole.root in
      record {
        root = (entry 0 first.0, is.nodes 0 first.0 first.1, first.2);
        shape = λ k c s. let o = only k c s in subst (λ (d : CertNodeForm). IsOfQuery sizes closure d.node) (sym o.2) (of_query k o.0 o.1);
        kids = λ k c s. let o = only k c s in subst (λ (d : CertNodeForm). HoldsKids cert d.kids (kids closure full d.node)) (sym o.2) (hold o.0.kids (kids closure full o.0.node) (whole.kids k o.0 o.1));
        reason = λ k c s. let o = only k c s in subst (λ (d : CertNodeForm). IsEliminated closure cert d d.reason) (sym o.2) (eliminated k o.0 o.1);
      }
