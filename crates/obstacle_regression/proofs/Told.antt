-- What a valid answer to a candidate's query tells, and how large that query is.
use Rattle.std.proofs.Common.{◌≡◌, ◌↔◌, ℕ, zero, suc, ◌+◌, ◌<◌, ◌≤◌, true, List, [], ◌∷◌, ◌++◌, length, map, take, get_or, refl, sym, ap, ◌∙◌, subst, arith}
use Rattle.std.specs.List.{AllZip}
use Rattle.std.proofs.lemmas.List.{take_more, append-nil}
use Rattle.std.proofs.lemmas.Slice.Zip.{all_zipped_more}
use Rattle.state_space.specs.Ranges.{size_of}
use Rattle.std.proofs.lemmas.List.Elements.{All-push}
use Rattle.state_space.specs.declared.space.Space.{Space}
use Rattle.state_space.specs.Spaces.{ranges, sizes}
use Rattle.state_space.proofs.SpaceFacts.{sizes_of_ranges}
use Rattle.temporal_logic.specs.declared.formula.Formula.{Formula}
use Rattle.temporal_logic.specs.Trees.{tree_of}
use Rattle.bound_unfolding.specs.CoreTexts.{CoreFits}
use Rattle.std.specs.Prelude.{All}
use Rattle.temporal_logic.specs.Ltl.{Ltl}
use Rattle.temporal_logic.specs.Truth.{Trace, Meets}
use Rattle.temporal_logic.specs.Traces.{IsPeriodic}
use Rattle.temporal_logic.specs.Fits.{Fits}
use Rattle.temporal_logic.specs.Lassos.{trace_of}
use Rattle.temporal_logic.proofs.Equivalences.{iff_trans, and_iff}
use Rattle.temporal_logic.proofs.Fitting.{lasso_is_periodic}
use Rattle.bound_unfolding.specs.CoreForm.{CoreForm, CoreTruth, nodes, levels}
use Rattle.bound_unfolding.specs.declared.core_form.Core.{Core}
use Rattle.bound_unfolding.specs.CoreTree.{core_tree}
use Rattle.bound_unfolding.specs.CoreLists.{cores_of}
use Rattle.formula_table.specs.Closures.{with_core, with_cores, closure_of}
use Rattle.formula_table.proofs.CoreLaws.{core_size}
use Rattle.tableau_rules.specs.declared.answer.Answer.{Answer}
use Rattle.tableau_rules.specs.declared.answer.Answer.TheVariants.{Empty, Found, Withheld}
use Rattle.tableau_rules.specs.Answers.{IsValidAnswer}
use Rattle.tableau_rules.specs.Queries.{IsOver, MeetsAll}
use Rattle.tableau_rules.proofs.Eliminations.{certificate_law}
use Rattle.entailment.proofs.Queries.{query_law, over_of_fits, over_of_list}
use Rattle.goal_model.specs.Models.{ModelForm, sizes_of, PartsFit}
use Rattle.goal_model.specs.declared.demand.Demand.{Demand}
use Rattle.goal_model.specs.Items.{domain_item}
use Rattle.goal_model.specs.Demands.{demand_of, demands_of}
use Rattle.operationalisation.proofs.EachOf.{append_iff, one_iff}
use Rattle.obstacle_regression.specs.Regressions.{total_nodes, domain_formulas}
use Rattle.obstacle_regression.specs.Candidates.{is_small}
use Rattle.obstacle_regression.specs.declared.standing.Standing.{Standing}
use Rattle.obstacle_regression.proofs.Halves.{all_mapped}
use Rattle.obstacle_regression.specs.Standings.{candidate_query, StandsSo, standing_told}
use Rattle.obstacle_regression.proofs.GoalObstacles.{properties_all}

module _ (m : ModelForm) (fit : PartsFit m) (c : CoreForm) where
  met : (t : Trace) → IsPeriodic (sizes_of m) t → MeetsAll t (candidate_query m c) ↔ (Meets t (domain_formulas m) × CoreTruth t c 0)
  met t periodic =
      let P = λ (k : CoreForm). CoreTruth t k 0 in
      iff_trans (append_iff P (cores_of (sizes_of m) (domain_formulas m)) (c ∷ [])) (and_iff (query_law m.ranges fit.ranges (domain_formulas m) (properties_all (Fits m.ranges) m fit.domains) t periodic) (one_iff P c))

  pub stands : (budget : ℕ) (a : Answer) → IsValidAnswer (sizes_of m) (candidate_query m c) budget a → StandsSo m budget c (standing_told a)
  stands budget (Empty cert) (size, has, few, valid, short) =
      (λ found. certificate_law (sizes_of m) (candidate_query m c) _ valid found.0 found.1.0.fits ((met found.0 found.1.0).1 (found.1.1, found.2)), (size, has, few))
  stands budget (Found lasso) (within, of_space, meets) =
      let periodic = lasso_is_periodic (sizes_of m) lasso of_space in
      let both = (met (trace_of lasso) periodic).0 meets in
      ((trace_of lasso, (periodic, both.0), both.1), within)
  stands budget (Withheld number) valid = valid

-- ---- sizes
closure_grows : (cores : List CoreForm) (closure : List CoreForm) → length (with_cores cores closure) ≤ length closure + total_nodes cores
closure_grows [] closure = omega arith
closure_grows (c ∷ cs) closure = omega (arith, core_size c closure, closure_grows cs (with_core c closure))

total_with : (cores : List CoreForm) (c : CoreForm) → total_nodes (cores ++ c ∷ []) ≡ total_nodes cores + nodes c
total_with [] c = omega arith
total_with (d ∷ ds) c = omega (arith, total_with ds c)

pub closure_few : (cores : List CoreForm) (c : CoreForm) → total_nodes cores + nodes c ≤ 4096 → length (closure_of (cores ++ c ∷ [])) ≤ 4096
closure_few cores c few = omega (arith, closure_grows (cores ++ c ∷ []) [], total_with cores c, few)

pub one_of_total : (sizes : List ℕ) (fs : List Ltl) (k : ℕ) (d : Ltl) → k < length fs → nodes (core_tree sizes true (get_or fs k d)) ≤ total_nodes (cores_of sizes fs)
one_of_total sizes [] k d l = absurd (omega (arith, l))
one_of_total sizes (f ∷ fs) zero d l = omega arith
one_of_total sizes (f ∷ fs) (suc k) d l = omega (arith, one_of_total sizes fs k d (omega (arith, l)))

pub total_front : (cores more : List CoreForm) → total_nodes cores ≤ total_nodes (cores ++ more)
total_front [] more = omega arith
total_front (c ∷ cs) more = omega (arith, total_front cs more)

-- ---- the query is over the variables of the space
pub query_over : (space : Space) (domain : List Formula) (c : CoreForm) → All (λ f. Fits (ranges space) (tree_of f)) domain → CoreFits (ranges space) c
    → (cores : List CoreForm) → cores ≡ cores_of (sizes space) (map tree_of domain) ++ c ∷ [] → All (IsOver (sizes space)) cores
query_over space domain c fit candidate cores are =
    subst (All (IsOver (sizes space))) (sym are)
    (All-push (IsOver (sizes space)) (cores_of (sizes space) (map tree_of domain)) c (over_of_list space domain (cores_of (sizes space) (map tree_of domain)) fit refl)
    (subst (λ s. IsOver s c) (sym (sizes_of_ranges space)) (over_of_fits (ranges space) c candidate)))

-- ---- over a space that has the model's ranges, and the list of the domain properties
module _ (m : ModelForm) (fit : PartsFit m) (space : Space) (same : ranges space ≡ m.ranges) (domain : List Formula) (are : map tree_of domain ≡ domain_formulas m) where
  pub sizes_are : sizes space ≡ sizes_of m
  sizes_are = sizes_of_ranges space ∙ ap (map size_of) same

  pub domain_fits : All (Fits m.ranges) (map tree_of domain) → All (λ f. Fits (ranges space) (tree_of f)) domain
  domain_fits h = all_mapped (Fits (ranges space)) tree_of domain (subst (λ r. All (Fits r) (map tree_of domain)) (sym same) h)

  pub domain_shallow : All (λ f. levels (core_tree (sizes_of m) true f) ≤ 1000) (map tree_of domain) → All (λ f. levels (core_tree (sizes space) true (tree_of f)) ≤ 1000) domain
  domain_shallow h =
      all_mapped (λ f. levels (core_tree (sizes space) true f) ≤ 1000) tree_of domain (subst (λ s. All (λ f. levels (core_tree s true f) ≤ 1000) (map tree_of domain)) (sym sizes_are) h)

  pub small_beside : (c : CoreForm) → is_small (total_nodes (cores_of (sizes_of m) (domain_formulas m))) c ≡ true → is_small (total_nodes (cores_of (sizes space) (map tree_of domain))) c ≡ true
  small_beside c h =
      ap (λ s. is_small (total_nodes (cores_of s (map tree_of domain))) c) sizes_are ∙ ap (λ fs. is_small (total_nodes (cores_of (sizes_of m) fs)) c) are ∙ h

  pub stands_by : (c : CoreForm) (budget : ℕ) (a : Answer) (cores : List CoreForm) → cores ≡ cores_of (sizes space) (map tree_of domain) ++ c ∷ [] → IsValidAnswer (sizes space) cores budget a
      → (s : Standing) → s ≡ standing_told a → StandsSo m budget c s
  stands_by c budget a cores cores_are valid s told =
      let query : cores ≡ candidate_query m c = cores_are ∙ ap (λ z. cores_of z (map tree_of domain) ++ c ∷ []) sizes_are ∙ ap (λ fs. cores_of (sizes_of m) fs ++ c ∷ []) are in
      subst (StandsSo m budget c) (sym told) (stands m fit c budget a (subst (λ cs. IsValidAnswer (sizes_of m) cs budget a) query (subst (λ z. IsValidAnswer z cores budget a) sizes_are valid)))

-- one standing more
pub standings_more : (R : Core → Standing → Type 0) (cs : List Core) (k : ℕ) (x : Core) (old all : List Standing) (s : Standing) → k < length cs → x ≡ get_or cs k x
    → AllZip R (take k cs) old → R x s → all ≡ old ++ s ∷ [] → AllZip R (take (k + 1) cs) all
standings_more R cs k x old all s inside at before here pushed =
    let longer : take (k + 1) cs ≡ take k cs ++ x ∷ [] = take_more cs k x inside ∙ ap (λ y. take k cs ++ y ∷ []) (sym at) in
    subst (λ (xs : List Core). AllZip R xs all) (sym longer) (subst (AllZip R (take k cs ++ x ∷ [])) (sym pushed) (all_zipped_more R (take k cs) old x s before here))

-- the list of the domain's demand
pub domain_list_is : (m : ModelForm) (d : Demand) → demand_of d ∷ [] ≡ demands_of m (domain_item ∷ []) → map tree_of d.list.items ≡ domain_formulas m
domain_list_is m d e = ap (λ ds. (get_or ds 0 (demand_of d)).list) e ∙ append-nil (domain_formulas m)
