-- The formulas of requirements and of other parts are true at the start of a trace exactly where the trace meets these.
use Rattle.std.proofs.Common.{◌↔◌, ℕ, Bool, true, false, List, map, arith}
use Rattle.std.specs.Prelude.{All, slice_index_or}
use Rattle.temporal_logic.specs.Ltl.{Ltl}
use Rattle.temporal_logic.specs.Truth.{Trace, Truth, Meets}
use Rattle.temporal_logic.proofs.Equivalences.{iff_refl, iff_trans, not_iff, and_iff}
use Rattle.model_text.specs.declared.statement.Role.{Role}
use Rattle.model_text.specs.declared.statement.Role.TheVariants.{Pre, Trig, Post}
use Rattle.goal_model.specs.declared.item.Part.{Part}
use Rattle.goal_model.specs.declared.item.Part.TheVariants.{Goal, Obstacle, Requirement, Boundary}
use Rattle.goal_model.specs.Models.{PropertyForm, OperationForm, RequirementForm, ModelForm}
use Rattle.goal_model.specs.Requirements.{requirement_tree}
use Rattle.goal_model.specs.Items.{no_operation, no_requirement, requirement_formula, part_formula, signed, list_of, all_as}
use Rattle.goal_model.specs.Conditions.{MeetsRole, MeetsRequirement, MeetsPart, MeetsSigned, MeetsParts}
use Rattle.operationalisation.proofs.EachOf.{append_iff, map_iff}

-- a formula in a role on an operation
role_true : (t : Trace) (o : OperationForm) (role : Role) (f : Ltl) → Truth t (requirement_tree role o.dompre o.dompost f) 0 ↔ MeetsRole t o role f
role_true t o Pre f = (λ h i applied. h i (omega arith) applied, λ h i later applied. h i applied)
role_true t o Trig f = (λ h i asked may. (may, h i (omega arith) (asked, may)), λ h i later asked. (h i asked.0 asked.1).1)
role_true t o Post f = (λ h i applied. h i (omega arith) applied, λ h i later applied. h i applied)

module _ (m : ModelForm) (t : Trace) where
  -- a requirement of the model
  pub requirement_true : (r : RequirementForm) → Truth t (requirement_formula m r) 0 ↔ MeetsRequirement m t r
  requirement_true r = role_true t (slice_index_or m.operations r.operation no_operation) r.role r.formula

  -- a part, as it is
  pub part_true : (part : Part) → Truth t (part_formula m part) 0 ↔ MeetsPart m t part
  part_true (Goal g) = iff_refl
  part_true (Obstacle o) = iff_refl
  part_true (Requirement r) = requirement_true (slice_index_or m.requirements r no_requirement)
  part_true (Boundary l) = iff_refl

  -- a part as it is, or negated
  signed_true : (positive : Bool) (part : Part) → Truth t (signed positive (part_formula m part)) 0 ↔ MeetsSigned m t positive part
  signed_true true part = part_true part
  signed_true false part = not_iff (part_true part)

  -- the formulas of parts, behind the domain properties
  pub list_met : (parts : List (Part × Bool)) → Meets t (list_of m parts) ↔ MeetsParts m t parts
  list_met parts =
      let formula = λ (p : Part × Bool). signed p.1 (part_formula m p.0) in
      iff_trans
      (append_iff (λ f. Truth t f 0) (map (λ (p : PropertyForm). p.formula) m.domains) (map formula parts))
      (and_iff iff_refl (map_iff (λ f. Truth t f 0) (λ p. MeetsSigned m t p.1 p.0) formula (λ p. signed_true p.1 p.0) parts))

  -- parts of one kind as they are
  pub places_met : (part : ℕ → Part) (places : List ℕ) → MeetsParts m t (all_as part true places) ↔ (Meets t (map (λ (p : PropertyForm). p.formula) m.domains) × All (λ x. MeetsPart m t (part x)) places)
  places_met part places = and_iff iff_refl (map_iff (λ p. MeetsSigned m t p.1 p.0) (λ x. MeetsPart m t (part x)) (λ x. (part x, true)) (λ x. iff_refl) places)
