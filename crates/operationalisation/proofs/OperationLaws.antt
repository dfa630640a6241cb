-- The demands of an operationalisation, by the traces of its operations.
use Rattle.std.proofs.Common.{◌↔◌, ℕ, true, List, [], ◌∷◌}
use Rattle.temporal_logic.proofs.Equivalences.{iff_trans}
use Rattle.goal_model.specs.declared.item.Part.TheVariants.{Goal, Requirement}
use Rattle.goal_model.specs.declared.item.Wanted.TheVariants.{NoTrace, SomeTrace}
use Rattle.goal_model.specs.Models.{ModelForm}
use Rattle.goal_model.specs.Items.{all_as, operation_complete_item, operation_consistent_item, exact_item}
use Rattle.goal_model.specs.Conditions.{MeetsSigned, Stands}
use Rattle.operationalisation.specs.Operationalisations.{Achieves, HasOperation, Forces}
use Rattle.operationalisation.proofs.EachOf.{one_iff}
use Rattle.operationalisation.proofs.PartTruth.{places_met}
use Rattle.operationalisation.proofs.Excluded.{excluded}

module _ (m : ModelForm) where
  -- no trace of the operations makes the goal false exactly where each makes it true
  pub complete_stands : (statement goal : ℕ) (requirements : List ℕ) → Stands m NoTrace (operation_complete_item m statement goal requirements).parts ↔ Achieves m requirements goal
  complete_stands statement goal requirements =
      iff_trans (excluded m (all_as Requirement true requirements) (Goal goal)) (
        λ h t is. h t is.0.0 ((places_met m t Requirement requirements).1 (is.0.1, is.1)),
        λ h t periodic met. let both = (places_met m t Requirement requirements).0 met in h t ((periodic, both.0), both.1),
      )

  -- some trace meets the requirements exactly where there is one of their operations
  pub consistent_stands : (statement goal : ℕ) (requirements : List ℕ) → Stands m SomeTrace (operation_consistent_item m statement goal requirements).parts ↔ HasOperation m requirements
  consistent_stands statement goal requirements = (
    λ found. let both = (places_met m found.0 Requirement requirements).0 found.2 in (found.0, ((found.1, both.0), both.1)),
    λ found. (found.0, found.1.0.0, (places_met m found.0 Requirement requirements).1 (found.1.0.1, found.1.1)),
  )

  -- no trace makes the goal true and misses the requirement exactly where each that makes it true meets it
  pub exact_stands : (statement goal requirement : ℕ) → Stands m NoTrace (exact_item m statement goal requirement).parts ↔ Forces m goal requirement
  exact_stands statement goal requirement =
      iff_trans (excluded m ((Goal goal, true) ∷ []) (Requirement requirement)) (
        λ h t is achieved. h t is.0 (is.1, (one_iff (λ p. MeetsSigned m t p.1 p.0) (Goal goal, true)).1 achieved),
        λ h t periodic met. h t (periodic, met.0) ((one_iff (λ p. MeetsSigned m t p.1 p.0) (Goal goal, true)).0 met.1),
      )
