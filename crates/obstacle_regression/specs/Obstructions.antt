-- What an obstruction says of its goal and its obstacles.
use Rattle.std.specs.Prelude.{ℕ, Bool, true, false, List, slice_index_or, Contains}
use Rattle.temporal_logic.specs.Ltl.{Ltl}
use Rattle.temporal_logic.specs.Truth.{Trace, Truth}
use Rattle.goal_model.specs.Models.{LinkForm, obstruct, ModelForm}
use Rattle.goal_model.specs.Items.{no_obstacle}
use Rattle.operationalisation.specs.Operationalisations.{goal_at, IsOfDomain}

abbrev pub is_obstruction : LinkForm → Bool
is_obstruction (obstruct statement goal obstacles) = true
is_obstruction link = false

-- the formula of the obstacle at a place
abbrev pub obstacle_at : ModelForm → ℕ → Ltl
obstacle_at m o = (slice_index_or m.obstacles o no_obstacle).formula

-- the goal is false on each trace of the domain on which the obstacle is true at the start
abbrev pub Obstructs : ModelForm → (obstacle goal : ℕ) → Type 0
Obstructs m obstacle goal = (t : Trace) → IsOfDomain m t → Truth t (obstacle_at m obstacle) 0 → Truth t (goal_at m goal) 0 → ⊥

-- some trace of the domain makes the obstacle true at its start
abbrev pub IsPossible : ModelForm → (obstacle : ℕ) → Type 0
IsPossible m obstacle = (t : Trace) × IsOfDomain m t × Truth t (obstacle_at m obstacle) 0

-- on no trace of the domain the goal is false and none of the obstacles is true
abbrev pub Cover : ModelForm → (obstacles : List ℕ) → (goal : ℕ) → Type 0
Cover m obstacles goal = (t : Trace) → IsOfDomain m t → ((o : ℕ) → Contains obstacles o → Truth t (obstacle_at m o) 0 → ⊥) → (Truth t (goal_at m goal) 0 → ⊥) → ⊥
