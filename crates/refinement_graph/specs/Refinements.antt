-- What a refinement says of its goals.
use Rattle.std.specs.Prelude.{ℕ, Bool, true, false, List, ◌++◌, map}
use Rattle.temporal_logic.specs.Ltl.{Ltl}
use Rattle.temporal_logic.specs.Truth.{Trace, Truth, Meets}
use Rattle.temporal_logic.specs.Traces.{IsPeriodic}
use Rattle.goal_model.specs.Models.{LinkForm, refine, ModelForm, sizes_of}
use Rattle.operationalisation.specs.Operationalisations.{goal_at}

abbrev pub is_refinement : LinkForm → Bool
is_refinement (refine statement parent subgoals pattern) = true
is_refinement link = false

-- the domain properties and these goals
abbrev pub with_domain : ModelForm → List ℕ → List Ltl
with_domain m goals = map (λ p. p.formula) m.domains ++ map (goal_at m) goals

-- under the domain properties the goal is true at the start of each ultimately periodic trace that meets these others
abbrev pub Entails : ModelForm → List ℕ → ℕ → Type 0
Entails m goals parent = (t : Trace) → IsPeriodic (sizes_of m) t → Meets t (with_domain m goals) → Truth t (goal_at m parent) 0

-- some ultimately periodic trace meets the domain properties and these goals
abbrev pub Coexist : ModelForm → List ℕ → Type 0
Coexist m goals = (t : Trace) × IsPeriodic (sizes_of m) t × Meets t (with_domain m goals)
