-- The candidates of a goal of a model obstruct it.
use Rattle.std.proofs.Common.{ℕ, ◌<◌, true, false, List, [], map, length, get_or, sym, subst}
use Rattle.std.proofs.lemmas.List.{append-nil}
use Rattle.std.specs.Prelude.{All, Contains, filter}
use Rattle.std.proofs.lemmas.List.Elements.{All-map, All-filter, All-contains_itself}
use Rattle.temporal_logic.specs.Ltl.{Ltl}
use Rattle.temporal_logic.specs.Truth.{Trace, Truth, Meets}
use Rattle.temporal_logic.specs.Traces.{IsPeriodic}
use Rattle.temporal_logic.specs.Fits.{Fits}
use Rattle.bound_unfolding.specs.CoreForm.{CoreForm, CoreTruth}
use Rattle.bound_unfolding.specs.CoreTree.{core_tree}
use Rattle.bound_unfolding.specs.CoreTexts.{CoreFits}
use Rattle.bound_unfolding.proofs.CoreRanges.{core_fits}
use Rattle.goal_model.specs.Models.{PropertyForm, ModelForm, sizes_of, PartsFit}
use Rattle.goal_model.specs.Items.{no_goal, list_of}
use Rattle.operationalisation.specs.Operationalisations.{goal_at, IsOfDomain}
use Rattle.obstacle_regression.specs.Candidates.{RuleCores}
use Rattle.obstacle_regression.specs.Regressions.{rule_formula, rules_among, rule_cores, domain_cores, rule_formulas, domain_formulas, regression_through, goal_regression}
use Rattle.obstacle_regression.proofs.Halves.{all_mapped}
use Rattle.obstacle_regression.proofs.Keeping.{derived_fits}
use Rattle.obstacle_regression.proofs.Deriving.{candidates_derived}
use Rattle.obstacle_regression.proofs.Obstructing.{among_all, derived_obstructs}

-- what all domain properties have, the rules have
pub rules_all : (P : Ltl → Type 0) (m : ModelForm) → All (λ p. P p.formula) m.domains → All P (rule_formulas m)
rules_all P m h = All-map P (λ p. p.formula) (filter (λ p. p.is_rule) m.domains) (All-filter (λ p. p.is_rule) (λ p. P p.formula) m.domains h)

module _ (m : ModelForm) (fit : PartsFit m) (goal depth : ℕ) (known : goal < length m.goals) where
  pub obstructs_through : (rules beside : List Ltl) → All (Fits m.ranges) rules → (c : CoreForm) → Contains (regression_through m goal rules beside depth).list c
      → (t : Trace) → IsPeriodic (sizes_of m) t → Meets t rules → CoreTruth t c 0 → ¬ (Truth t (goal_at m goal) 0)
  obstructs_through rules beside fits c has t periodic met =
      derived_obstructs m.ranges fit.ranges t periodic (goal_at m goal) (fit.goals goal no_goal known) (rules_among rules) (among_all (Fits m.ranges) rules fits)
      (All-map (λ f. Truth t f 0) rule_formula (rules_among rules) (among_all (λ f. Truth t f 0) rules met))
      c (candidates_derived (domain_cores (sizes_of m) (rules_among rules) beside) (core_tree (sizes_of m) false (goal_at m goal)) depth c has)

  pub candidates_fit : (rules beside : List Ltl) → All (Fits m.ranges) rules → All (CoreFits m.ranges) (regression_through m goal rules beside depth).list
  candidates_fit rules beside fits =
      let list = (regression_through m goal rules beside depth).list in
      let cores = map (rule_cores (sizes_of m)) (rules_among rules) in
      let causes = All-map (λ (r : RuleCores). CoreFits m.ranges r.cause) (rule_cores (sizes_of m)) (rules_among rules) (λ k e o. core_fits m.ranges (get_or (rules_among rules) k e).cause (among_all (Fits m.ranges) rules fits k e o).0 true) in
      let first = core_tree (sizes_of m) false (goal_at m goal) in
      λ k e o. derived_fits m.ranges cores first (core_fits m.ranges (goal_at m goal) (fit.goals goal no_goal known) false) causes (get_or list k e)
      (candidates_derived (domain_cores (sizes_of m) (rules_among rules) beside) first depth (get_or list k e) (All-contains_itself list k e o))

  pub obstructs_goal : (c : CoreForm) → Contains (goal_regression m goal depth).list c → (t : Trace) → IsOfDomain m t → CoreTruth t c 0 → ¬ (Truth t (goal_at m goal) 0)
  obstructs_goal c has t is =
      obstructs_through (rule_formulas m) (domain_formulas m) (rules_all (Fits m.ranges) m fit.domains) c has t is.0
      (rules_all (λ f. Truth t f 0) m (all_mapped (λ f. Truth t f 0) (λ (p : PropertyForm). p.formula) m.domains is.1))

-- and so have their formulas
pub properties_all : (P : Ltl → Type 0) (m : ModelForm) → All (λ p. P p.formula) m.domains → All P (domain_formulas m)
properties_all P m h = All-map P (λ p. p.formula) m.domains h

-- and so has the list without parts
pub domains_all : (P : Ltl → Type 0) (m : ModelForm) → All (λ p. P p.formula) m.domains → All P (list_of m [])
domains_all P m h = subst (All P) (sym (append-nil (domain_formulas m))) (properties_all P m h)
