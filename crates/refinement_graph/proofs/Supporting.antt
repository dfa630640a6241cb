-- An assured goal is true on each trace that has what the model takes for granted.
use Rattle.std.proofs.Common.{◌≡◌, ℕ, ◌<◌, Bool, List, length, map, get_or, subst}
use Rattle.std.specs.Prelude.{All}
use Rattle.std.proofs.lemmas.List.Elements.{All-append, All-map, All-contains_itself}
use Rattle.temporal_logic.specs.Ltl.{Ltl}
use Rattle.temporal_logic.specs.Truth.{Trace, Truth}
use Rattle.temporal_logic.specs.Traces.{IsPeriodic}
use Rattle.goal_model.specs.Models.{LinkIsOf, PropertyForm, operationalise, ModelForm, sizes_of}
use Rattle.goal_model.specs.Items.{no_goal, no_link, no_requirement}
use Rattle.operationalisation.specs.Operationalisations.{goal_at, MeetsAt}
use Rattle.refinement_graph.specs.Assurance.{IsAssured, is_expected, is_operationalised, is_refined, link_at, AreRight, MeetsModel}

module _ (m : ModelForm) (links : All (LinkIsOf m) m.links) (holds : List Bool) (right : AreRight m holds) (t : Trace) (periodic : IsPeriodic (sizes_of m) t) (has : MeetsModel m t) where
  abbrev IsTrueFirst : Ltl → Type 0
  IsTrueFirst f = Truth t f 0

  -- the requirements of a link are met, since the model has them
  requirements_met : (l s g : ℕ) (requirements : List ℕ) (exact : Bool) → l < length m.links → link_at m l ≡ operationalise s g requirements exact → All (MeetsAt m t) requirements
  requirements_met l s g requirements exact inside is =
      let known = (subst (LinkIsOf m) is (links l no_link inside)).1 in
      λ k e o. has.requirements (get_or requirements k e) no_requirement (known k e o)

  pub assured_true : (g : ℕ) → IsAssured m holds g → IsTrueFirst (goal_at m g)
  assured_true g (is_expected h inside expected) = has.expected h no_goal inside expected
  assured_true g (is_operationalised l s h requirements exact held is) =
      right.operations l s h requirements exact held is t ((periodic, has.properties), requirements_met l s h requirements exact held.inside is)
  assured_true g (is_refined l s h subgoals pattern held is assured) =
      right.refinements l s h subgoals pattern held is t periodic
      (All-append IsTrueFirst (map (λ (p : PropertyForm). p.formula) m.domains) (map (goal_at m) subgoals) has.properties
      (All-map IsTrueFirst (goal_at m) subgoals (λ k e o. assured_true (get_or subgoals k e) (assured (get_or subgoals k e) (All-contains_itself subgoals k e o)))))
