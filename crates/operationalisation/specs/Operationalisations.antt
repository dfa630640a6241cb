-- What an operationalisation says of its goal: traces of operations, which are applied as its requirements ask, make the goal true.
use Rattle.std.specs.Prelude.{ℕ, Bool, true, false, List, All, map, slice_index_or}
use Rattle.temporal_logic.specs.Ltl.{Ltl}
use Rattle.temporal_logic.specs.Truth.{Trace, Truth, Meets}
use Rattle.temporal_logic.specs.Traces.{IsPeriodic}
use Rattle.goal_model.specs.Models.{LinkForm, operationalise, ModelForm, sizes_of}
use Rattle.goal_model.specs.Items.{no_goal, no_requirement}
use Rattle.goal_model.specs.Conditions.{MeetsRequirement}

abbrev pub is_operationalisation : LinkForm → Bool
is_operationalisation (operationalise statement goal requirements exact) = true
is_operationalisation link = false

-- the formula of the goal at a place
abbrev pub goal_at : ModelForm → ℕ → Ltl
goal_at m g = (slice_index_or m.goals g no_goal).formula

-- a trace meets the requirement at a place
abbrev pub MeetsAt : ModelForm → Trace → ℕ → Type 0
MeetsAt m t r = MeetsRequirement m t (slice_index_or m.requirements r no_requirement)

-- an ultimately periodic trace of the domain
abbrev pub IsOfDomain : ModelForm → Trace → Type 0
IsOfDomain m t = IsPeriodic (sizes_of m) t × Meets t (map (λ p. p.formula) m.domains)

-- a trace of the domain on which operations are applied as these requirements ask
abbrev pub IsOfOperations : ModelForm → List ℕ → Trace → Type 0
IsOfOperations m requirements t = IsOfDomain m t × All (MeetsAt m t) requirements

-- the requirements make the goal true at the start of each trace of their operations
abbrev pub Achieves : ModelForm → List ℕ → ℕ → Type 0
Achieves m requirements goal = (t : Trace) → IsOfOperations m requirements t → Truth t (goal_at m goal) 0

-- the requirements have a trace of their operations
abbrev pub HasOperation : ModelForm → List ℕ → Type 0
HasOperation m requirements = (t : Trace) × IsOfOperations m requirements t

-- each trace of the domain that makes the goal true meets the requirement
abbrev pub Forces : ModelForm → ℕ → ℕ → Type 0
Forces m goal requirement = (t : Trace) → IsOfDomain m t → Truth t (goal_at m goal) 0 → MeetsAt m t requirement
