-- Lists of formulas of which no core is too deep, a formula more at a time.
use Rattle.std.proofs.Common.{◌≡◌, ℕ, ◌+◌, ◌<◌, ◌≤◌, List, [], ◌∷◌, ◌++◌, length, map, get_or, take, true, sym, ap, subst, ◌∙◌, arith}
use Rattle.std.specs.Prelude.{All, min}
use Rattle.std.proofs.lemmas.List.{map-append, take_more}
use Rattle.std.proofs.lemmas.List.Elements.{All-push}
use Rattle.temporal_logic.specs.declared.formula.Formula.{Formula}
use Rattle.temporal_logic.specs.Ltl.{Ltl}
use Rattle.temporal_logic.specs.Trees.{tree_of}
use Rattle.bound_unfolding.specs.CoreForm.{levels}
use Rattle.bound_unfolding.specs.CoreTree.{core_tree}

-- one formula more, whose core is not too deep
pub shallow_more : (sizes : List ℕ) (xs : List Formula) (i : ℕ) (x : Formula) (depth : ℕ) → i < length xs → x ≡ get_or xs i x
    → depth ≡ min (levels (core_tree sizes true (tree_of x))) 1001 → depth ≤ 1000
    → All (λ f. levels (core_tree sizes true f) ≤ 1000) (map tree_of (take i xs)) → All (λ f. levels (core_tree sizes true f) ≤ 1000) (map tree_of (take (i + 1) xs))
shallow_more sizes xs i x depth inside is e low shallow =
    let front = map tree_of (take i xs) in
    let more : map tree_of (take (i + 1) xs) ≡ front ++ tree_of x ∷ [] = ap (map tree_of) (take_more xs i x inside) ∙ map-append tree_of (take i xs) (get_or xs i x ∷ []) ∙ ap (λ (y : Formula). front ++ tree_of y ∷ []) (sym is) in
    let here : levels (core_tree sizes true (tree_of x)) ≤ 1000 = omega (arith, e, low) in
    subst (All (λ f. levels (core_tree sizes true f) ≤ 1000)) (sym more) (All-push (λ f. levels (core_tree sizes true f) ≤ 1000) front (tree_of x) shallow here)
