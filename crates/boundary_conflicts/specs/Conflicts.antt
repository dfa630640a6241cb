-- What a conflict says of its goals and its boundary condition.
use Rattle.std.specs.Prelude.{ℕ, Bool, true, false, List, slice_index_or, Contains}
use Rattle.temporal_logic.specs.Ltl.{Ltl}
use Rattle.temporal_logic.specs.Truth.{Trace, Truth}
use Rattle.goal_model.specs.Models.{LinkForm, conflict, ModelForm}
use Rattle.goal_model.specs.Items.{no_link, boundary_of}
use Rattle.operationalisation.specs.Operationalisations.{goal_at, IsOfDomain}

abbrev pub is_conflict : LinkForm → Bool
is_conflict (conflict statement name goals boundary) = true
is_conflict link = false

-- the boundary condition of the conflict at a place of the links
abbrev pub boundary_at : ModelForm → (link : ℕ) → Ltl
boundary_at m link = boundary_of (slice_index_or m.links link no_link)

-- each of these goals is true at the start of the trace
abbrev pub HasGoals : ModelForm → Trace → List ℕ → Type 0
HasGoals m t goals = (g : ℕ) → Contains goals g → Truth t (goal_at m g) 0

-- no trace of the domain on which the boundary condition is true at the start has all these goals
abbrev pub Diverge : ModelForm → (link : ℕ) → (goals : List ℕ) → Type 0
Diverge m link goals = (t : Trace) → IsOfDomain m t → Truth t (boundary_at m link) 0 → HasGoals m t goals → ⊥

-- some trace of the domain on which the boundary condition is true at the start has all these goals
abbrev pub Coexist : ModelForm → (link : ℕ) → (goals : List ℕ) → Type 0
Coexist m link goals = (t : Trace) × IsOfDomain m t × Truth t (boundary_at m link) 0 × HasGoals m t goals

-- some trace of the domain makes the boundary condition true at its start
abbrev pub IsFeasible : ModelForm → (link : ℕ) → Type 0
IsFeasible m link = (t : Trace) × IsOfDomain m t × Truth t (boundary_at m link) 0
