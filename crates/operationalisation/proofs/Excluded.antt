-- Parts with a further one negated, as the demand that something follows asks of them.
use Rattle.std.proofs.Common.{◌↔◌, Bool, false, List, [], ◌∷◌, ◌++◌}
use Rattle.temporal_logic.specs.Truth.{Trace, Truth}
use Rattle.temporal_logic.specs.Traces.{IsPeriodic}
use Rattle.temporal_logic.proofs.Decided.{truth_decided}
use Rattle.temporal_logic.proofs.Equivalences.{iff_refl, iff_trans, and_iff}
use Rattle.goal_model.specs.declared.item.Part.{Part}
use Rattle.goal_model.specs.Models.{ModelForm, sizes_of}
use Rattle.goal_model.specs.Items.{part_formula}
use Rattle.goal_model.specs.Conditions.{MeetsPart, MeetsSigned, MeetsParts, HasTrace}
use Rattle.operationalisation.proofs.EachOf.{append_iff, one_iff}
use Rattle.operationalisation.proofs.PartTruth.{part_true}

module _ (m : ModelForm) where
  -- parts are met without a further one where they are met and that one is not
  without_last : (t : Trace) (parts : List (Part × Bool)) (part : Part) → MeetsParts m t (parts ++ (part, false) ∷ []) ↔ (MeetsParts m t parts × (MeetsPart m t part → ⊥))
  without_last t parts part =
      let P = λ (p : Part × Bool). MeetsSigned m t p.1 p.0 in
      let split = iff_trans (append_iff P parts ((part, false) ∷ [])) (and_iff iff_refl (one_iff P (part, false))) in
      (λ h. ((h.0, (split.0 h.1).0), (split.0 h.1).1), λ h. (h.0.0, split.1 (h.0.1, h.1)))

  -- what a trace that ends in a loop does not fail to meet, it meets
  not_unmet : (t : Trace) (part : Part) → IsPeriodic (sizes_of m) t → ((MeetsPart m t part → ⊥) → ⊥) → MeetsPart m t part
  not_unmet t part periodic h = by (truth_decided t periodic.start periodic.turn periodic.loops (part_formula m part) 0)
    where
      by : Dec (Truth t (part_formula m part) 0) → MeetsPart m t part
      by (yes is) = (part_true m t part).0 is
      by (no is_not) = absurd (h (λ met. is_not ((part_true m t part).1 met)))

  -- no trace meets parts without a further one exactly where each trace that meets them meets that one too
  pub excluded : (parts : List (Part × Bool)) (part : Part) → (HasTrace m (parts ++ (part, false) ∷ []) → ⊥) ↔ ((t : Trace) → IsPeriodic (sizes_of m) t → MeetsParts m t parts → MeetsPart m t part)
  excluded parts part = (
    λ none t periodic met. not_unmet t part periodic (λ unmet. none (t, periodic, (without_last t parts part).1 (met, unmet))),
    λ all found. let split = (without_last found.0 parts part).0 found.2 in split.1 (all found.0 found.1 split.0),
  )
