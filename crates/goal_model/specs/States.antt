-- Which value indexes a written state gives to the variables that are declared before it.
use Rattle.std.specs.Prelude.{ℕ, List, [], ◌∷◌, ◌++◌, length, replicate, not, Ok, set}
use Rattle.model_text.specs.declared.raw_formula.RawValue.{RawValue}
use Rattle.model_text.specs.RawView.{written}
use Rattle.model_text.specs.Statements.{Setting}
use Rattle.goal_model.specs.declared.refusal.RefusalKind.TheVariants.{DuplicateName}
use Rattle.goal_model.specs.Names.{is_among}
use Rattle.goal_model.specs.Refusals.{Resolved, and_then, holds}
use Rattle.goal_model.specs.ValueIndexes.{index_of}
use Rattle.goal_model.specs.Scopes.{ScopeForm, range_at, variable_in}

-- a setting, wherever it lies in memory
abbrev pub setting_of : List ℕ × RawValue → Setting
setting_of s = record { variable = s.0; value = written s.1 }

-- a row with the settings of a list written into it, where the variables `front` are set before
unfoldable pub set_from : ScopeForm → List (List ℕ) → List ℕ → List Setting → Resolved (List ℕ)
set_from s front row [] = Ok row
set_from s front row (t ∷ ts) =
    and_then (variable_in s t.variable) (λ k. and_then (holds (not (is_among t.variable front)) DuplicateName t.variable) (λ _.
    and_then (index_of t.variable (range_at s k) t.value) (λ i. set_from s (front ++ t.variable ∷ []) (set row k i) ts)))

-- a state: a variable that is not set has index 0
abbrev pub state_in : ScopeForm → List Setting → Resolved (List ℕ)
state_in s sets = set_from s [] (replicate (length s.names) 0) sets

-- states, behind some rows
unfoldable pub states_from : ScopeForm → List (List ℕ) → List (List Setting) → Resolved (List (List ℕ))
states_from s rows [] = Ok rows
states_from s rows (t ∷ ts) = and_then (state_in s t) (λ row. states_from s (rows ++ row ∷ []) ts)

abbrev pub states_in : ScopeForm → List (List Setting) → Resolved (List (List ℕ))
states_in s states = states_from s [] states
