-- The demands of a refinement, by the goals that it is of.
use Rattle.std.proofs.Common.{◌↔◌, ℕ, true, List, ◌++◌, map}
use Rattle.temporal_logic.specs.Ltl.{Ltl}
use Rattle.temporal_logic.specs.Truth.{Trace, Truth, Meets}
use Rattle.temporal_logic.proofs.Equivalences.{iff_refl, iff_sym, iff_trans, and_iff}
use Rattle.goal_model.specs.declared.item.Part.TheVariants.{Goal}
use Rattle.goal_model.specs.declared.item.Wanted.TheVariants.{NoTrace, SomeTrace}
use Rattle.goal_model.specs.Models.{PropertyForm, ModelForm}
use Rattle.goal_model.specs.Conditions.{MeetsParts, Stands}
use Rattle.goal_model.specs.Items.{all_as, complete_item, consistent_item, minimal_item}
use Rattle.operationalisation.proofs.EachOf.{append_iff, map_iff}
use Rattle.operationalisation.proofs.PartTruth.{places_met}
use Rattle.operationalisation.proofs.Excluded.{excluded}
use Rattle.operationalisation.specs.Operationalisations.{goal_at}
use Rattle.refinement_graph.specs.Refinements.{with_domain, Entails, Coexist}

module _ (m : ModelForm) where
  -- a trace meets goals as parts of an item exactly where it meets their formulas, behind the domain properties
  goals_met : (t : Trace) (goals : List ℕ) → MeetsParts m t (all_as Goal true goals) ↔ Meets t (with_domain m goals)
  goals_met t goals =
      let Holds = λ (f : Ltl). Truth t f 0 in
      iff_trans (places_met m t Goal goals)
      (iff_sym (iff_trans (append_iff Holds (map (λ (p : PropertyForm). p.formula) m.domains) (map (goal_at m) goals))
      (and_iff iff_refl (map_iff Holds (λ g. Holds (goal_at m g)) (goal_at m) (λ g. iff_refl) goals))))

  -- no trace meets the subgoals and misses the parent exactly where they entail it
  pub complete_stands : (statement parent : ℕ) (subgoals : List ℕ) → Stands m NoTrace (complete_item m statement parent subgoals).parts ↔ Entails m subgoals parent
  complete_stands statement parent subgoals =
      iff_trans (excluded m (all_as Goal true subgoals) (Goal parent)) (
        λ h t periodic meets. h t periodic ((goals_met t subgoals).1 meets),
        λ h t periodic met. h t periodic ((goals_met t subgoals).0 met),
      )

  -- some trace meets the subgoals as parts exactly where they have one together
  pub consistent_stands : (statement parent : ℕ) (subgoals : List ℕ) → Stands m SomeTrace (consistent_item m statement parent subgoals).parts ↔ Coexist m subgoals
  consistent_stands statement parent subgoals = (
    λ found. (found.0, found.1, (goals_met found.0 subgoals).0 found.2),
    λ found. (found.0, found.1, (goals_met found.0 subgoals).1 found.2),
  )

  -- a trace that meets the other subgoals and misses the parent shows that these do not entail it
  pub minimal_stands : (statement parent subgoal : ℕ) (before behind : List ℕ) → Stands m SomeTrace (minimal_item m statement parent before subgoal behind).parts → Entails m (before ++ behind) parent → ⊥
  minimal_stands statement parent subgoal before behind found entails = (complete_stands statement parent (before ++ behind)).1 entails found
