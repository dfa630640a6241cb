-- The formulas of a list, by their trees.
use Rattle.std.proofs.Common.{◌≡◌, ℕ, ◌+◌, ◌<◌, ◌≤◌, ◌∙◌, List, length, take, sym, ap, subst, arith}
use Rattle.std.specs.Prelude.{map, slice_index_or}
use Rattle.std.proofs.lemmas.List.{get_or-map, length-map, take_all}
use Rattle.std.proofs.lemmas.List.Elements.{All-more}
use Rattle.temporal_logic.specs.declared.formula.Formula.{Formula}
use Rattle.temporal_logic.specs.Ltl.{Ltl}
use Rattle.temporal_logic.specs.Trees.{tree_of}
use Rattle.temporal_logic.specs.Truth.{Trace, Truth, Meets}

pub at_index : (list : List Formula) (i : ℕ) (f : Formula) (d : Ltl) → i < length list → f ≡ slice_index_or list i f → slice_index_or (map tree_of list) i d ≡ tree_of f
at_index list i f d l e = get_or-map tree_of list i f d l ∙ ap tree_of (sym e)

pub all_taken : (t : Trace) (list : List Formula) (n : ℕ) → length list ≤ n → Meets t (take n (map tree_of list)) → Meets t (map tree_of list)
all_taken t list n l h =
    let long : length (map tree_of list) ≤ n = omega (arith, length-map list tree_of) in
    subst (Meets t) (take_all n (map tree_of list) long) h

pub one_more : (t : Trace) (list : List Formula) (i : ℕ) (f : Formula) → i < length list → f ≡ slice_index_or list i f → Meets t (take i (map tree_of list)) → Truth t (tree_of f) 0 → Meets t (take (i + 1) (map tree_of list))
one_more t list i f l e h true_there =
    let within : i < length (map tree_of list) = omega (arith, length-map list tree_of) in
    All-more (λ g. Truth t g 0) (map tree_of list) i (tree_of f) within h (subst (λ g. Truth t g 0) (sym (at_index list i f (tree_of f) l e)) true_there)

pub one_false : (t : Trace) (list : List Formula) (i : ℕ) (f : Formula) → i < length list → f ≡ slice_index_or list i f → ¬ (Truth t (tree_of f) 0) → ¬ (Meets t (map tree_of list))
one_false t list i f l e n h =
    let within : i < length (map tree_of list) = omega (arith, length-map list tree_of) in
    n (subst (λ g. Truth t g 0) (at_index list i f (tree_of f) l e) (h i (tree_of f) within))
