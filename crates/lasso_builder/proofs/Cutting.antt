-- A closed walk of places, cut where its loop begins, is a closed walk of nodes.
use Rattle.std.proofs.Common.{◌≡◌, ℕ, zero, suc, ◌+◌, ◌-◌, ◌%◌, ◌<◌, ◌≤◌, List, [], ◌∷◌, length, get_or, take, drop, Bool, false, sym, ap, subst, ◌∙◌, inl, inr, arith, mod-eq_of_lt, length-take, length-drop, get_or-take, get_or-drop, cond, IsTrue}
use Rattle.std.specs.Prelude.{Contains, All}
use Rattle.std.proofs.lemmas.Bool.{cases_eq, cases_lt, lt-ltb, le-ltb}
use Rattle.std.proofs.lemmas.List.{get_or-map, get_or_default, length-map}
use Rattle.std.proofs.Math.Nat.{mod_self}
use Rattle.state_space.specs.Members.{full_of}
use Rattle.bound_unfolding.specs.CoreForm.{CoreForm}
use Rattle.formula_table.specs.Closures.{closure_of, formula_at}
use Rattle.tableau_rules.specs.declared.edges.Edges.{Edges}
use Rattle.tableau_rules.specs.Nodes.{NodeForm, kids, root_of}
use Rattle.tableau_rules.specs.Certificates.{is_until}
use Rattle.tableau_rules.specs.Graphs.{GraphNodeForm, IsWhole}
use Rattle.tableau_rules.specs.Links.{carries_at, fulfils_at, IsLinked}
use Rattle.tableau_rules.specs.Walks.{no_node, node_at, Settles, IsClosedWalk}
use Rattle.lasso_builder.specs.PlaceWalks.{IsWalk, IsClosed, stem_of, loop_of}
use Rattle.lasso_builder.specs.GraphPlaces.{node_in, nodes_at}
use Rattle.lasso_builder.proofs.GraphSets.{held_node, kid_in, fulfils_in, not_carried}
use Rattle.tableau_rules.proofs.Closing.{until_below}

-- the places are places of the graph
pub inside_graph : (cores : List CoreForm) (graph : List GraphNodeForm) (links : List Edges) (alive : List Bool) (walk : List ℕ) → IsLinked cores graph links → IsWalk links alive walk → All (λ p. p < length graph) walk
inside_graph cores graph links alive walk linked w = λ k d l. let i = (w.living k l).0 in let s = linked.size in let e = get_or_default walk k 0 d l in omega (arith, i, s, e)

at_end : (x y : ℕ) → x ≡ y → 0 < y → x % y ≡ 0
at_end x y e h = ap (λ z. z % y) e ∙ mod_self y

before_end : (x y : ℕ) → x < y → x % y ≡ x
before_end x y h = mod-eq_of_lt h

one : (k : ℕ) → suc k ≡ k + 1
one k = omega arith

plain : (x : ℕ) → x + 0 ≡ x
plain x = omega arith

module _ (graph : List GraphNodeForm) (walk : List ℕ) (start : ℕ) (inside : start + 1 < length walk) (back : get_or walk start 0 ≡ get_or walk (length walk - 1) 0) where
  abbrev stem : List NodeForm
  stem = nodes_at graph (take start walk)

  abbrev turn : List NodeForm
  turn = nodes_at graph (take (length walk - 1 - start) (drop start walk))

  pub stem_length : length stem ≡ start
  stem_length = length-map (take start walk) (node_in graph) ∙ length-take start walk ∙ omega (arith, inside)

  pub turn_length : length turn ≡ length walk - 1 - start
  turn_length =
      let a = length-drop start walk in
      length-map (take (length walk - 1 - start) (drop start walk)) (node_in graph) ∙ length-take (length walk - 1 - start) (drop start walk) ∙ omega (arith, a, inside)

  in_stem : (k : ℕ) → k < start → get_or stem k no_node ≡ node_in graph (get_or walk k 0)
  in_stem k h =
      let l : k < length (take start walk) = let s = length-take start walk in omega (arith, s, h, inside) in
      get_or-map (node_in graph) (take start walk) k 0 no_node l ∙ ap (node_in graph) (get_or-take start walk k 0 h)

  in_turn : (k : ℕ) → k < length walk - 1 - start → get_or turn k no_node ≡ node_in graph (get_or walk (start + k) 0)
  in_turn k h =
      let a = length-drop start walk in
      let b = length-take (length walk - 1 - start) (drop start walk) in
      get_or-map (node_in graph) (take (length walk - 1 - start) (drop start walk)) k 0 no_node (omega (arith, a, b, h))
      ∙ ap (node_in graph) (get_or-take (length walk - 1 - start) (drop start walk) k 0 h ∙ get_or-drop start walk k 0)

  pub same_node : (k : ℕ) → k < length walk → node_at stem turn k ≡ node_in graph (get_or walk k 0)
  same_node k h =
      let sl = stem_length in
      let tl = turn_length in
      let choice : Bool → NodeForm = λ b. cond b (get_or stem k no_node) (get_or turn ((k - length stem) % length turn) no_node) in
      elim (cases_lt k (length stem)) [
        | inl l ↦ ap choice (lt-ltb k (length stem) l) ∙ in_stem k (omega (arith, l, sl))
        | inr l ↦ ap choice (le-ltb k (length stem) l) ∙ elim (cases_eq k (length walk - 1)) [
          | inl q ↦
              let m : (k - length stem) % length turn ≡ 0 = at_end (k - length stem) (length turn) (omega (arith, q, sl, tl)) (omega (arith, tl, inside)) in
              ap (λ z. get_or turn z no_node) m ∙ in_turn 0 (omega (arith, inside)) ∙ ap (λ z. node_in graph (get_or walk z 0)) (plain start) ∙ ap (node_in graph) (back ∙ ap (λ z. get_or walk z 0) (sym q))
          | inr q ↦
              let kl : k - length stem < length turn = omega (arith, h, q, sl, tl, l) in
              let m : (k - length stem) % length turn ≡ k - length stem = before_end (k - length stem) (length turn) kl in
              let again : start + (k - length stem) ≡ k = omega (arith, sl, l) in
              ap (λ z. get_or turn z no_node) m ∙ in_turn (k - length stem) (omega (arith, kl, tl)) ∙ ap (λ z. node_in graph (get_or walk z 0)) again
        ]
      ]

module _ (sizes : List ℕ) (cores : List CoreForm) (graph : List GraphNodeForm) (links : List Edges) (alive : List Bool) (walk : List ℕ) (start : ℕ) (whole : IsWhole sizes cores graph) (linked : IsLinked cores graph links)
    (c : IsClosed links (carries_at (closure_of cores) graph) (fulfils_at links) (length (closure_of cores)) alive walk start) where
  abbrev closure : List CoreForm
  closure = closure_of cores

  abbrev full : List ℕ
  full = full_of sizes

  abbrev node : ℕ → NodeForm
  node k = node_in graph (get_or walk k 0)

  abbrev nodes : ℕ → NodeForm
  nodes k = node_at (stem graph walk start c.inside c.back) (turn graph walk start c.inside c.back) k

  same : (k : ℕ) → k < length walk → nodes k ≡ node k
  same k h = same_node graph walk start c.inside c.back k h

  abbrev Settled : ℕ → ℕ → Type 0
  Settled e k = Settles closure full e (node k) (node (k + 1))

  settled : (e : ℕ) → IsTrue (is_until (formula_at closure e)) → (k : ℕ) × (start ≤ k) × (k + 1 < length walk) × Settled e k
  settled e u =
      let s = c.served e (until_below closure e u) in
      let i = s.inside in
      let a = s.after in
      elim s.how [
        | inr f ↦ let m = f.more in (s.at, a, m, inr (fulfils_in cores graph links linked sizes whole e (get_or walk s.at 0) (get_or walk (s.at + 1) 0) (c.is.living s.at i).0 f.can f.first))
        | inl d ↦ elim (cases_eq s.at (length walk - 1)) [
          | inl q ↦
              let first : carries_at closure graph e (get_or walk start 0) ≡ false = ap (carries_at closure graph e) (c.back ∙ ap (λ z. get_or walk z 0) (sym q)) ∙ d in
              (start, omega arith, c.inside, inl (not_carried closure graph e (get_or walk start 0) u first))
          | inr q ↦ (s.at, a, omega (arith, i, q), inl (not_carried closure graph e (get_or walk s.at 0) u d))
        ]
      ]

  pub closed_walk : IsClosedWalk sizes cores (nodes_at graph (stem_of walk start)) (nodes_at graph (loop_of walk start))
  closed_walk =
      let i = c.inside in
      let sl = stem_length graph walk start c.inside c.back in
      let tl = turn_length graph walk start c.inside c.back in
      record {
        turns = omega (arith, tl, i);
        starts = same 0 (omega (arith, i)) ∙ ap (node_in graph) c.is.starts ∙ sym (held_node graph 0 (root_of closure full cores) whole.root);
        goes = λ k h.
            let k1 : k + 1 < length walk = omega (arith, h, sl, tl, i) in
            subst (λ n. Contains (kids closure full n) (nodes (k + 1))) (sym (same k (omega (arith, k1))))
            (subst (λ n. Contains (kids closure full (node k)) n) (sym (same (k + 1) k1))
            (kid_in cores graph links linked sizes whole (get_or walk k 0) (get_or walk (k + 1) 0) (c.is.living k (omega (arith, k1))).0 (c.is.goes k k1)));
        settles = λ e u.
            let s = settled e u in
            let k1 = s.2 in
            let from = s.1 in (
              s.0,
              omega (arith, from, sl),
              omega (arith, k1, sl, tl),
              subst (λ n. Settles closure full e n (nodes (s.0 + 1))) (sym (same s.0 (omega (arith, k1))))
                  (subst (λ n. Settles closure full e (node s.0) n) (sym (same (s.0 + 1) k1)) s.3),
            );
      }
