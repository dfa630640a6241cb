-- Whether what an agent monitors and controls is enough for a goal, and else the first variable that it lacks.
use Rattle.std.specs.Prelude.{◌≡◌, ℕ, ◌⊎◌, Bool, true, false, not, ◌==◌, ◌||◌, List, [], ◌∷◌, Option, None, Some, find, if◌then◌else◌, slice_index_or}
use Rattle.std.specs.List.{list_any}
use Rattle.std.specs.Int.{bit_at}
use Rattle.temporal_logic.specs.Ltl.{Ltl, entails}
use Rattle.temporal_logic.specs.Shapes.{variables_of}
use Rattle.temporal_logic.specs.Truth.{Trace}
use Rattle.goal_model.specs.Models.{AgentForm, ModelForm}
use Rattle.goal_model.specs.Items.{no_goal}
use Rattle.agent_capabilities.specs.declared.cover.Cover.{Cover}
use Rattle.agent_capabilities.specs.declared.cover.Cover.TheVariants as code

-- what an agent lacks for a goal, by the number of a variable
pub data CoverForm : Type 0 where
  covered : CoverForm
  not_monitored : (x : ℕ) → CoverForm
  not_controlled : (x : ℕ) → CoverForm

abbrev pub cover_of : Cover → CoverForm
cover_of code.Covered = covered
cover_of (code.NotMonitored x) = not_monitored x.0
cover_of (code.NotControlled x) = not_controlled x.0

-- ---- what an agent sees and controls

-- whether a variable is in a set, which is the number whose bits are the members
abbrev pub is_in : ℕ → ℕ → Bool
is_in set x = bit_at set x == 1

abbrev pub is_controlled : AgentForm → ℕ → Bool
is_controlled agent x = is_in agent.controls x

-- a variable is seen where it is monitored or controlled
abbrev pub is_seen : AgentForm → ℕ → Bool
is_seen agent x = is_in agent.monitors x || is_controlled agent x

-- ---- coverage

-- the first variable that fails a test
abbrev pub first_without : (ℕ → Bool) → List ℕ → Option ℕ
first_without test variables = find (λ x. not (test x)) variables

-- a variable that is not seen decides first
abbrev pub unseen_first : Option ℕ → CoverForm → CoverForm
unseen_first None rest = rest
unseen_first (Some x) rest = not_monitored x

-- each variable is to be controlled: the first that is not decides
abbrev pub all_controlled : Option ℕ → CoverForm
all_controlled None = covered
all_controlled (Some x) = not_controlled x

-- of variables, if there are any, one at least is to be controlled: else the first decides
abbrev pub some_controlled : AgentForm → List ℕ → CoverForm
some_controlled agent [] = covered
some_controlled agent (x ∷ xs) = if list_any (is_controlled agent) (x ∷ xs) then covered else not_controlled x

-- of `A entails C` each variable of A is to be seen, and each one of C controlled
abbrev pub reaction_coverage : AgentForm → Ltl → Ltl → CoverForm
reaction_coverage agent a c = unseen_first (first_without (is_seen agent) (variables_of a)) (all_controlled (first_without (is_controlled agent) (variables_of c)))

-- of another goal each variable is to be seen, and one of them controlled
abbrev pub other_coverage : AgentForm → Ltl → CoverForm
other_coverage agent f = unseen_first (first_without (is_seen agent) (variables_of f)) (some_controlled agent (variables_of f))

-- variables are taken in the order in which they occur
abbrev pub coverage : AgentForm → Ltl → CoverForm
coverage agent (entails a c) = reaction_coverage agent a c
coverage agent f = other_coverage agent f

abbrev pub no_agent : AgentForm
no_agent = record { name = []; monitors = 0; controls = 0 }

-- the coverage of the goal at a place by the agent at a place
abbrev pub coverage_at : ModelForm → (goal agent : ℕ) → CoverForm
coverage_at m g a = coverage (slice_index_or m.agents a no_agent) (slice_index_or m.goals g no_goal).formula

-- ---- what it is for

-- two traces agree, at each position, on the variables that the agent monitors or controls
abbrev pub AgreeFor : AgentForm → Trace → Trace → Type 0
AgreeFor agent t u = (i x : ℕ) → (bit_at agent.monitors x ≡ 1) ⊎ (bit_at agent.controls x ≡ 1) → t i x ≡ u i x

-- ---- how it is found

-- the first variable that is in a set, or that is not
abbrev pub first_with : (set : ℕ) → (inside : Bool) → List ℕ → Option ℕ
first_with set true variables = find (is_in set) variables
first_with set false variables = first_without (is_in set) variables
