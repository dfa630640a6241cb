-- How many items a link has, and where the first of each link lies.
use Rattle.std.proofs.Common.{◌≡◌, ℕ, ◌+◌, ◌*◌, ◌<◌, ◌≤◌, true, List, [], ◌∷◌, ◌++◌, length, take, drop, refl, ap, arith, length-append}
use Rattle.std.proofs.lemmas.List.{length-map, take_more, take-append-drop, length-take}
use Rattle.goal_model.specs.Models.{LinkForm, refine, obstruct, conflict, operationalise, assign, ModelForm}
use Rattle.goal_model.specs.Items.{ItemForm, each_of, minimal_item, covered_item, without_item, feasible_item, exact_item, refinement_items, hindrance_items, obstruction_items, conflict_items, operation_items, no_link, link_items_of, items_from, items_of}
use Rattle.refinement_graph.specs.Assurance.{first_item, link_at}

length-each_of : (made : List ℕ → ℕ → List ℕ → ItemForm) (front xs : List ℕ) → length (each_of made front xs) ≡ length xs
length-each_of made front [] = refl
length-each_of made front (x ∷ xs) = let rest = length-each_of made (front ++ x ∷ []) xs in omega (arith, rest)

module _ (m : ModelForm) where
  length-hindrance_items : (s g : ℕ) (os : List ℕ) → length (hindrance_items m s g os) ≡ 2 * length os
  length-hindrance_items s g [] = refl
  length-hindrance_items s g (o ∷ os) = let rest = length-hindrance_items s g os in omega (arith, rest)

  pub length-refinement_items : (s g : ℕ) (subgoals : List ℕ) → length (refinement_items m s g subgoals) ≡ length subgoals + 2
  length-refinement_items s g subgoals = omega (arith, length-each_of (minimal_item m s g) [] subgoals)

  pub length-obstruction_items : (s g : ℕ) (obstacles : List ℕ) → length (obstruction_items m s g obstacles) ≡ 2 * length obstacles + 1
  length-obstruction_items s g obstacles =
      omega (arith, length-hindrance_items s g obstacles, length-append (hindrance_items m s g obstacles) (covered_item m s g obstacles ∷ []))

  pub length-conflict_items : (l s : ℕ) (x goals : List ℕ) → length (conflict_items m l s x goals) ≡ length goals + 2
  length-conflict_items l s x goals =
      let each = each_of (without_item m l s x) [] goals in
      omega (arith, length-each_of (without_item m l s x) [] goals, length-append each (feasible_item l s x ∷ []))

  pub length-operation_items : (s g : ℕ) (requirements : List ℕ) → length (operation_items m s g requirements true) ≡ length requirements + 2
  length-operation_items s g requirements = omega (arith, length-map requirements (exact_item m s g))

  -- a link has an item
  pub length-link_items_of : (l : ℕ) (link : LinkForm) → 0 < length (link_items_of m l link)
  length-link_items_of l (refine s g subgoals pattern) = omega arith
  length-link_items_of l (obstruct s g obstacles) = omega (arith, length-obstruction_items s g obstacles)
  length-link_items_of l (conflict s x goals boundary) = omega arith
  length-link_items_of l (operationalise s g requirements exact) = omega arith
  length-link_items_of l (assign s g a) = omega arith

  length-items_from : (k : ℕ) (xs ys : List LinkForm) → length (items_from m k (xs ++ ys)) ≡ length (items_from m k xs) + length (items_from m (k + length xs) ys)
  length-items_from k [] ys =
      let same : k + 0 ≡ k = omega arith in
      let moved = ap (λ j. length (items_from m j ys)) same in
      omega (arith, moved)
  length-items_from k (x ∷ xs) ys =
      let here = link_items_of m k x in
      let rest = length-items_from (k + 1) xs ys in
      let same : k + 1 + length xs ≡ k + length (x ∷ xs) = omega arith in
      let moved = ap (λ j. length (items_from m j ys)) same in
      omega (arith, rest, moved, length-append here (items_from m (k + 1) (xs ++ ys)), length-append here (items_from m (k + 1) xs))

  -- the items of the links before a place, with those of the link there
  pub first_item-next : (l : ℕ) → l < length m.links → first_item m (l + 1) ≡ first_item m l + length (link_items_of m l (link_at m l))
  first_item-next l inside =
      let link = link_at m l in
      let before = take l m.links in
      let more = ap (λ links. length (items_from m 0 links)) (take_more m.links l no_link inside) in
      let place : 0 + length before ≡ l = omega (arith, length-take l m.links) in
      let moved = ap (λ j. length (items_from m j (link ∷ []))) place in
      omega (arith, more, moved, length-items_from 0 before (link ∷ []), length-append (link_items_of m l link) [])

  -- no link has an item behind the last one of the report
  pub first_item-within : (l : ℕ) → l < length m.links → first_item m l + length (link_items_of m l (link_at m l)) ≤ length (items_of m)
  first_item-within l inside =
      let whole = ap (λ links. length (items_from m 0 links)) (take-append-drop (l + 1) m.links) in
      omega (arith, whole, first_item-next l inside, length-items_from 0 (take (l + 1) m.links) (drop (l + 1) m.links))
