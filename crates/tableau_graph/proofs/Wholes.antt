-- The rows of an exploration, from the first node on until all are there and make a whole graph.
use Rattle.std.proofs.Common.{◌≡◌, ◌⊎◌, ℕ, zero, suc, ◌<◌, ◌≤◌, List, [], ◌∷◌, ◌++◌, length, get_or, Some, None, Option, refl, sym, ap, subst, ◌∙◌, inl, inr, arith, length-append, true, false, true≢false}
use Rattle.std.specs.Prelude.{slice_get, is_some}
use Rattle.std.proofs.lemmas.Option.{slice_get_within, slice_get-get_or}
use Rattle.state_space.specs.Members.{full_of}
use Rattle.bound_unfolding.specs.CoreForm.{CoreForm}
use Rattle.formula_table.specs.Closures.{closure_of}
use Rattle.tableau_rules.specs.Nodes.{NodeForm, root_of}
use Rattle.tableau_rules.specs.Graphs.{IsReached, root, AreReached, IsLarger, GraphNodeForm, nodes_in, IsWhole}
use Rattle.tableau_graph.specs.Places.{kids_in, PlacesHave, IsPut, IsPlaced, HasKids, AreRows}
use Rattle.tableau_graph.specs.Joined.{join}
use Rattle.tableau_graph.proofs.Growth.{same_some, have_more, reached_put}

-- ---- nodes and rows, joined
join_nodes : (ns : List NodeForm) (rs : List (List ℕ)) → length ns ≤ length rs → nodes_in (join ns rs) ≡ ns
join_nodes [] rs l = refl
join_nodes (n ∷ ns) [] l = absurd (omega arith)
join_nodes (n ∷ ns) (r ∷ rs) l = ap (λ xs. n ∷ xs) (join_nodes ns rs (omega arith))

join_length : (ns : List NodeForm) (rs : List (List ℕ)) → length (join ns rs) ≤ length ns
join_length [] rs = omega arith
join_length (n ∷ ns) [] = omega arith
join_length (n ∷ ns) (r ∷ rs) = let l = join_length ns rs in omega (arith, l)

join_at : (ns : List NodeForm) (rs : List (List ℕ)) (k : ℕ) (g : GraphNodeForm) → slice_get (join ns rs) k ≡ Some g → (slice_get ns k ≡ Some g.node) × (slice_get rs k ≡ Some g.kids)
join_at [] rs k g h = absurd (cc)
join_at (n ∷ ns) [] k g h = absurd (cc)
join_at (n ∷ ns) (r ∷ rs) zero g h =
    let e : record { node = n; kids = r } ≡ g = same_some (record { node = n; kids = r }) g (slice_get (join (n ∷ ns) (r ∷ rs)) 0) refl h in
    (ap (λ (x : GraphNodeForm). Some x.node) e, ap (λ (x : GraphNodeForm). Some x.kids) e)
join_at (n ∷ ns) (r ∷ rs) (suc k) g h = join_at ns rs k g h

-- what stands at a place of a list with one more at the end
got_last : {X : Type 0} (xs : List X) (x y : X) (k : ℕ) → slice_get (xs ++ x ∷ []) k ≡ Some y → ((k < length xs) × (slice_get xs k ≡ Some y)) ⊎ ((k ≡ length xs) × (x ≡ y))
got_last [] x y zero h = inr (refl, same_some x y (Some x) refl h)
got_last [] x y (suc k) h = absurd (cc)
got_last (z ∷ zs) x y zero h = inl (omega arith, h)
got_last (z ∷ zs) x y (suc k) h = elim (got_last zs x y k h) [
  | inl p ↦ let l = p.0 in inl (omega (arith, l), p.1)
  | inr p ↦ inr (ap suc p.0, p.1)
]

module _ (sizes : List ℕ) (cores : List CoreForm) (budget : ℕ) where
  -- ---- the first node
  reached_first : (new : List NodeForm) (r : NodeForm) → r ≡ root_of (closure_of cores) (full_of sizes) cores → IsPut [] new r → AreReached sizes cores new
  reached_first new r e p =
      reached_put sizes cores [] new r (record { distinct = λ i j d a b. absurd (omega arith); reached = λ k d l. absurd (omega arith) }) (subst (IsReached sizes cores) (sym e) root) p

  pub first_over : (old new : List NodeForm) (r : NodeForm) (place : Option ℕ) → old ≡ [] → r ≡ root_of (closure_of cores) (full_of sizes) cores → is_some place ≡ false → IsPlaced budget old new r place → IsLarger sizes cores budget
  first_over old new r None o e n p = record { nodes = new; more = p.1; are = reached_first new r e (subst (λ xs. IsPut xs new r) o p.0) }
  first_over old new r (Some place) o e n p = absurd (true≢false n)

  pub first_rows : (old new : List NodeForm) (r : NodeForm) (place : Option ℕ) (rows : List (List ℕ)) → old ≡ [] → r ≡ root_of (closure_of cores) (full_of sizes) cores → rows ≡ [] → is_some place ≡ true → IsPlaced budget old new r place
      → AreRows sizes cores budget new rows
  first_rows old new r None rows o e f n p = absurd (true≢false (sym n))
  first_rows old new r (Some place) rows o e f n p =
      let q : IsPut [] new r = subst (λ xs. IsPut xs new r) o p.0 in
      subst (AreRows sizes cores budget new) (sym f) (record {
        root = elim q [
          | inl z ↦ let l = slice_get_within new place r p.2 in let m = ap (λ (xs : List NodeForm). length xs) z in absurd (omega (arith, l, m))
          | inr z ↦ ap (λ xs. slice_get xs 0) z.0 ∙ ap (λ x. Some x) e
        ];
        within = record { are = reached_first new r e q; few = p.1 };
        few = omega arith;
        kids = λ k row m h g. absurd (cc);
      })

  -- ---- one row more
  pub more_rows : (nodes new : List NodeForm) (rows all : List (List ℕ)) (at : ℕ) (row : List ℕ) → at ≡ length rows → all ≡ rows ++ row ∷ [] → at < length nodes → AreRows sizes cores budget nodes rows → HasKids sizes cores budget nodes new at row
      → AreRows sizes cores budget new all
  more_rows nodes new rows all at row e f l a h =
      subst (AreRows sizes cores budget new) (sym f) (record {
        root = h.keeps.keeps 0 (root_of (closure_of cores) (full_of sizes) cores) a.root;
        within = h.within;
        few = let g = slice_get_within new at _ (stays at l (record { todo = []; now = []; next = [] })) in let m = length-append rows (row ∷ []) in omega (arith, e, g, m);
        kids = λ k r n g m. elim (got_last rows row r k g) [
          | inl p ↦
              let t = p.0 in
              let b : k < length nodes = omega (arith, e, l, t) in
              let q = same_some (get_or nodes k n) n (slice_get new k) (stays k b n) m in
              subst (λ x. PlacesHave new r (kids_in sizes cores x)) q
              (have_more nodes new r (kids_in sizes cores (get_or nodes k n)) h.keeps (a.kids k r (get_or nodes k n) p.1 (slice_get-get_or nodes k n b)))
          | inr p ↦
              let z : k ≡ at = p.0 ∙ sym e in
              let q = same_some (get_or nodes at n) n (slice_get new at) (stays at l n) (ap (slice_get new) (sym z) ∙ m) in
              subst (λ x. PlacesHave new r (kids_in sizes cores x)) q
              (subst (λ x. PlacesHave new x (kids_in sizes cores (get_or nodes at n))) p.1 (h.kids (get_or nodes at n) (slice_get-get_or nodes at n l)))
        ];
      })
    where
      -- what stands there stays there
      stays : (k : ℕ) → k < length nodes → (d : NodeForm) → slice_get new k ≡ Some (get_or nodes k d)
      stays k b d = h.keeps.keeps k (get_or nodes k d) (slice_get-get_or nodes k d b)

  -- ---- all rows
  pub whole : (ns : List NodeForm) (rs : List (List ℕ)) (graph : List GraphNodeForm) → graph ≡ join ns rs → AreRows sizes cores budget ns rs → length ns ≤ length rs → (length graph ≤ budget) × IsWhole sizes cores graph
  whole ns rs graph i a l =
      let f = a.within.few in
      let j = join_length ns rs in
      let e = join_nodes ns rs l in
      subst (λ g. (length g ≤ budget) × IsWhole sizes cores g) (sym i) (
        omega (arith, f, j),
        record {
          root = subst (λ (xs : List NodeForm). slice_get xs 0 ≡ Some (root_of (closure_of cores) (full_of sizes) cores)) (sym e) a.root;
          are = subst (AreReached sizes cores) (sym e) a.within.are;
          kids = λ k g h. let b = join_at ns rs k g h in subst (λ xs. PlacesHave xs g.kids (kids_in sizes cores g.node)) (sym e) (a.kids k g.kids g.node b.1 b.0);
        },
      )
