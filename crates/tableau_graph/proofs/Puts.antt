-- What a set of nodes is once a node is put into it, by the nodes as the tableau has them.
use Rattle.std.proofs.Common.{◌≡◌, ◌↔◌, ℕ, Bool, true, false, List, [], ◌∷◌, ◌++◌, get_or, map, IsTrue, Some, refl, sym, ap, ◌∙◌, inl, inr, arith, true≢false, if◌then◌else◌, ◌+◌, suc, length, subst, cond, not, ◌||◌}
use Rattle.std.specs.Prelude.{slice_get, Contains}
use Rattle.std.specs.List.{list_any, position_or_len}
use Rattle.std.specs.Set.{swap_key}
use Rattle.std.specs.Option.{option_map}
use Rattle.std.proofs.lemmas.Option.{get_or_from_slice_get, slice_get_within, slice_get-map}
use Rattle.std.proofs.lemmas.List.Folds.{list_any_at}
use Rattle.std.proofs.lemmas.Bool.{cases_Bool}
use Rattle.tableau_rules.specs.declared.node.Node.{Node}
use Rattle.tableau_rules.specs.NodeView.{node_of}
use Rattle.tableau_rules.proofs.Sizes.{got_of_map, map_length}
use Rattle.tableau_graph.specs.Places.{IsPut}

pub map_push : (xs : List Node) (x : Node) → map node_of (xs ++ x ∷ []) ≡ map node_of xs ++ node_of x ∷ []
map_push [] x = refl
map_push (y ∷ ys) x = ap (λ zs. node_of y ∷ zs) (map_push ys x)

-- what stands at a place, as the tableau has it
pub got_form : (xs : List Node) (k : ℕ) (x : Node) → slice_get xs k ≡ Some x → slice_get (map node_of xs) k ≡ Some (node_of x)
got_form xs k x h = slice_get-map node_of xs k ∙ ap (option_map node_of) h

module _ (eq : Node → Node → Bool) (same : (a b : Node) → IsTrue (eq a b) ↔ (node_of a ≡ node_of b)) where
  not_there : (old : List Node) (x : Node) → list_any (eq x) old ≡ false → ¬ (Contains (map node_of old) (node_of x))
  not_there old x f c =
      let l = c.1 in
      let e = map_length node_of old in
      let g = got_of_map node_of old c.0 (node_of x) (omega (arith, l, e)) c.2 in
      let y = get_or_from_slice_get old c.0 g.0 x g.1 in
      let t = list_any_at (eq x) old c.0 x (slice_get_within old c.0 g.0 g.1) ((same x (get_or old c.0 x)).1 (sym g.2 ∙ ap node_of (sym y))) in
      true≢false (sym t ∙ f)

  -- ---- an equal node in the place of the first that is there
  swapped : (xs : List Node) (x : Node) → map node_of (swap_key (eq x) xs x) ≡ map node_of xs
  swapped [] x = refl
  swapped (y ∷ ys) x = go (eq x y) refl (swapped ys x)
    where
      go : (b : Bool) → eq x y ≡ b → map node_of (swap_key (eq x) ys x) ≡ map node_of ys → map node_of (cond b (x ∷ ys) (y ∷ swap_key (eq x) ys x)) ≡ node_of y ∷ map node_of ys
      go true e r = ap (λ n. n ∷ map node_of ys) ((same x y).0 e)
      go false e r = ap (λ ns. node_of y ∷ ns) r

  swapped_at : (xs : List Node) (x : Node) → list_any (eq x) xs ≡ true → slice_get (swap_key (eq x) xs x) (position_or_len (eq x) xs) ≡ Some x
  swapped_at [] x = λ h. absurd (true≢false (sym h))
  swapped_at (y ∷ ys) x = go (eq x y) (swapped_at ys x)
    where
      go : (b : Bool) → (list_any (eq x) ys ≡ true → slice_get (swap_key (eq x) ys x) (position_or_len (eq x) ys) ≡ Some x)
          → (b || list_any (eq x) ys) ≡ true → slice_get (cond b (x ∷ ys) (y ∷ swap_key (eq x) ys x)) (cond (not b) (1 + position_or_len (eq x) ys) 0) ≡ Some x
      go true r h = refl
      go false r h = subst (λ k. slice_get (y ∷ swap_key (eq x) ys x) k ≡ Some x) (one (position_or_len (eq x) ys)) (r h)
        where
          one : (n : ℕ) → suc n ≡ 1 + n
          one n = omega arith

  pushed_at : (xs : List Node) (x : Node) → list_any (eq x) xs ≡ false → slice_get (xs ++ x ∷ []) (position_or_len (eq x) xs) ≡ Some x
  pushed_at [] x = λ h. refl
  pushed_at (y ∷ ys) x = go (eq x y) (pushed_at ys x)
    where
      go : (b : Bool) → (list_any (eq x) ys ≡ false → slice_get (ys ++ x ∷ []) (position_or_len (eq x) ys) ≡ Some x)
          → (b || list_any (eq x) ys) ≡ false → slice_get (y ∷ ys ++ x ∷ []) (cond (not b) (1 + position_or_len (eq x) ys) 0) ≡ Some x
      go true r h = absurd (true≢false h)
      go false r h = subst (λ k. slice_get (y ∷ ys ++ x ∷ []) k ≡ Some x) (one (position_or_len (eq x) ys)) (r h)
        where
          one : (n : ℕ) → suc n ≡ 1 + n
          one n = omega arith

  pub put_of : (old new : List Node) (x : Node) → new ≡ (if list_any (eq x) old then swap_key (eq x) old x else old ++ x ∷ []) → IsPut (map node_of old) (map node_of new) (node_of x)
  put_of old new x e = elim (cases_Bool (list_any (eq x) old)) [
    | inl t ↦ inl (ap (map node_of) (e ∙ ap (λ b. if b then swap_key (eq x) old x else old ++ x ∷ []) t) ∙ swapped old x)
    | inr f ↦ inr (ap (map node_of) (e ∙ ap (λ b. if b then swap_key (eq x) old x else old ++ x ∷ []) f) ∙ map_push old x, not_there old x f)
  ]

  pub place_of : (old new : List Node) (x : Node) (p : ℕ) → new ≡ (if list_any (eq x) old then swap_key (eq x) old x else old ++ x ∷ []) → p ≡ position_or_len (eq x) old → slice_get (map node_of new) p ≡ Some (node_of x)
  place_of old new x p e q = got_form new p x (ap (slice_get new) q ∙ elim (cases_Bool (list_any (eq x) old)) [
    | inl t ↦ ap (λ ks. slice_get ks (position_or_len (eq x) old)) (e ∙ ap (λ b. if b then swap_key (eq x) old x else old ++ x ∷ []) t) ∙ swapped_at old x t
    | inr f ↦ ap (λ ks. slice_get ks (position_or_len (eq x) old)) (e ∙ ap (λ b. if b then swap_key (eq x) old x else old ++ x ∷ []) f) ∙ pushed_at old x f
  ])
