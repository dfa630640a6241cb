-- What the parts of an item ask of a trace. A requirement asks it of its operation, with no formula made of it; any other part asks that its
-- formula is true at the start.
use Rattle.std.specs.Prelude.{ℕ, ◌+◌, Bool, true, false, List, map, All, slice_index_or}
use Rattle.temporal_logic.specs.Ltl.{Ltl}
use Rattle.temporal_logic.specs.Truth.{Trace, Truth, Meets}
use Rattle.temporal_logic.specs.Traces.{IsPeriodic}
use Rattle.model_text.specs.declared.statement.Role.{Role}
use Rattle.model_text.specs.declared.statement.Role.TheVariants.{Pre, Trig, Post}
use Rattle.goal_model.specs.declared.item.Part.{Part}
use Rattle.goal_model.specs.declared.item.Part.TheVariants.{Goal, Obstacle, Requirement, Boundary}
use Rattle.goal_model.specs.declared.item.Wanted.{Wanted}
use Rattle.goal_model.specs.declared.item.Wanted.TheVariants.{NoTrace, SomeTrace}
use Rattle.goal_model.specs.Models.{OperationForm, RequirementForm, ModelForm, sizes_of}
use Rattle.goal_model.specs.Items.{no_operation, no_requirement, part_formula}

-- an operation is applied at a position where it may be, and what it brings about is so at the next position
abbrev pub IsApplied : Trace → OperationForm → ℕ → Type 0
IsApplied t o i = Truth t o.dompre i × Truth t o.dompost (i + 1)

-- what a formula asks in each role: it is true wherever the operation is applied; the operation is applied wherever the formula is true and
-- the operation may be applied; it is true at the position behind each one at which the operation is applied
abbrev pub MeetsRole : Trace → OperationForm → Role → Ltl → Type 0
MeetsRole t o Pre f = (i : ℕ) → IsApplied t o i → Truth t f i
MeetsRole t o Trig f = (i : ℕ) → Truth t f i → Truth t o.dompre i → IsApplied t o i
MeetsRole t o Post f = (i : ℕ) → IsApplied t o i → Truth t f (i + 1)

-- a trace meets a requirement on an operation of the model
abbrev pub MeetsRequirement : ModelForm → Trace → RequirementForm → Type 0
MeetsRequirement m t r = MeetsRole t (slice_index_or m.operations r.operation no_operation) r.role r.formula

-- a trace meets a part
abbrev pub MeetsPart : ModelForm → Trace → Part → Type 0
MeetsPart m t (Goal g) = Truth t (part_formula m (Goal g)) 0
MeetsPart m t (Obstacle o) = Truth t (part_formula m (Obstacle o)) 0
MeetsPart m t (Requirement r) = MeetsRequirement m t (slice_index_or m.requirements r no_requirement)
MeetsPart m t (Boundary l) = Truth t (part_formula m (Boundary l)) 0

-- a trace meets a part as it is, or does not meet it where it is negated
abbrev pub MeetsSigned : ModelForm → Trace → Bool → Part → Type 0
MeetsSigned m t true part = MeetsPart m t part
MeetsSigned m t false part = MeetsPart m t part → ⊥

-- a trace meets the domain properties, and each of the parts
abbrev pub MeetsParts : ModelForm → Trace → List (Part × Bool) → Type 0
MeetsParts m t parts = Meets t (map (λ p. p.formula) m.domains) × All (λ p. MeetsSigned m t p.1 p.0) parts

-- some ultimately periodic trace over the model's variables meets the domain properties and the parts
abbrev pub HasTrace : ModelForm → List (Part × Bool) → Type 0
HasTrace m parts = (t : Trace) × IsPeriodic (sizes_of m) t × MeetsParts m t parts

-- what is wanted of the parts is so: no such trace meets them, or some does
abbrev pub Stands : ModelForm → Wanted → List (Part × Bool) → Type 0
Stands m NoTrace parts = HasTrace m parts → ⊥
Stands m SomeTrace parts = HasTrace m parts
