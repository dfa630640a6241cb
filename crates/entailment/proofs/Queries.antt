-- The positive cores of formulas, as a query.
use Rattle.std.proofs.Common.{◌≡◌, ◌↔◌, List, [], ◌∷◌, map, true, sym, subst, arith}
use Rattle.std.specs.Prelude.{All}
use Rattle.std.specs.List.{AllByRecursion as Each}
use Rattle.std.proofs.lemmas.List.{length-map}
use Rattle.std.proofs.lemmas.List.Elements.{All-from_recursion, recursion_from_All}
use Rattle.state_space.specs.Ranges.{RangeForm, size_of, IsGoodRange}
use Rattle.state_space.specs.declared.space.Space.{Space}
use Rattle.state_space.specs.Spaces.{ranges, sizes}
use Rattle.state_space.proofs.SpaceFacts.{sizes_of_ranges}
use Rattle.temporal_logic.specs.declared.formula.Formula.{Formula}
use Rattle.temporal_logic.specs.Trees.{tree_of}
use Rattle.temporal_logic.specs.Ltl.{Ltl}
use Rattle.temporal_logic.specs.Truth.{Trace, Truth, Meets}
use Rattle.temporal_logic.specs.Traces.{IsPeriodic}
use Rattle.temporal_logic.specs.Fits.{Fits}
use Rattle.bound_unfolding.specs.CoreForm.{CoreForm, core_true, core_false, lit, both, either, after, core_until, core_release, CoreTruth}
use Rattle.bound_unfolding.specs.CoreTexts.{CoreFits}
use Rattle.bound_unfolding.specs.CoreTree.{core_tree}
use Rattle.bound_unfolding.specs.CoreLists.{cores_of}
use Rattle.bound_unfolding.proofs.CoreTruths.{core_truth}
use Rattle.bound_unfolding.proofs.SpaceCores.{space_core_fits}
use Rattle.tableau_rules.specs.Queries.{IsOver, MeetsAll}

-- ---- a core that fits is over the variables
pub over_of_fits : (ranges : List RangeForm) (c : CoreForm) → CoreFits ranges c → IsOver (map size_of ranges) c
over_of_fits ranges core_true h = tt
over_of_fits ranges core_false h = tt
over_of_fits ranges (lit x set) h = let l = length-map ranges size_of in let a = h.0 in omega (arith, l, a)
over_of_fits ranges (both a b) h = (over_of_fits ranges a h.0, over_of_fits ranges b h.1)
over_of_fits ranges (either a b) h = (over_of_fits ranges a h.0, over_of_fits ranges b h.1)
over_of_fits ranges (after a) h = over_of_fits ranges a h
over_of_fits ranges (core_until a b) h = (over_of_fits ranges a h.0, over_of_fits ranges b h.1)
over_of_fits ranges (core_release a b) h = (over_of_fits ranges a h.0, over_of_fits ranges b h.1)

-- ---- the law
module _ (ranges : List RangeForm) (good : All IsGoodRange ranges) (t : Trace) (p : IsPeriodic (map size_of ranges) t) where
  to_cores : (list : List Ltl) → Each (Fits ranges) list → Each (λ f. Truth t f 0) list → Each (λ c. CoreTruth t c 0) (cores_of (map size_of ranges) list)
  to_cores [] h m = tt
  to_cores (f ∷ fs) h m = ((core_truth t p.start p.turn p.loops ranges good p.fits f h.0 true 0).1 m.0, to_cores fs h.1 m.1)

  of_cores : (list : List Ltl) → Each (Fits ranges) list → Each (λ c. CoreTruth t c 0) (cores_of (map size_of ranges) list) → Each (λ f. Truth t f 0) list
  of_cores [] h m = tt
  of_cores (f ∷ fs) h m = ((core_truth t p.start p.turn p.loops ranges good p.fits f h.0 true 0).0 m.0, of_cores fs h.1 m.1)

pub query_law : (ranges : List RangeForm) → All IsGoodRange ranges → (list : List Ltl) → All (Fits ranges) list → (t : Trace) → IsPeriodic (map size_of ranges) t
    → MeetsAll t (cores_of (map size_of ranges) list) ↔ Meets t list
query_law ranges good list fit t p =
    let fits = recursion_from_All (Fits ranges) list fit in
    let cores = cores_of (map size_of ranges) list in (
      (λ m. All-from_recursion (λ f. Truth t f 0) list (of_cores ranges good t p list fits (recursion_from_All (λ c. CoreTruth t c 0) cores m))),
      (λ m. All-from_recursion (λ c. CoreTruth t c 0) cores (to_cores ranges good t p list fits (recursion_from_All (λ f. Truth t f 0) list m))),
    )

-- ---- the cores are over the variables of the space
cores_over : (space : Space) (list : List Formula) → Each (λ f. Fits (ranges space) (tree_of f)) list → Each (IsOver (sizes space)) (cores_of (sizes space) (map tree_of list))
cores_over space [] h = tt
cores_over space (f ∷ fs) h =
    (subst (λ s. IsOver s (core_tree (sizes space) true (tree_of f))) (sym (sizes_of_ranges space)) (over_of_fits (ranges space) (core_tree (sizes space) true (tree_of f)) (space_core_fits space (tree_of f) h.0 true)), cores_over space fs h.1)

pub over_of_list : (space : Space) (list : List Formula) (cores : List CoreForm) → All (λ f. Fits (ranges space) (tree_of f)) list → cores ≡ cores_of (sizes space) (map tree_of list) → All (IsOver (sizes space)) cores
over_of_list space list cores h e =
    subst (λ cs. All (IsOver (sizes space)) cs) (sym e)
    (All-from_recursion (IsOver (sizes space)) (cores_of (sizes space) (map tree_of list)) (cores_over space list (recursion_from_All (λ f. Fits (ranges space) (tree_of f)) list h)))
