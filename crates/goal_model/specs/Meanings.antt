-- What the code finds for a name, wherever it lies in memory.
use Rattle.std.specs.Prelude.{ℕ, ◌<◌}
use Rattle.goal_model.specs.declared.namespace.Meaning as code
use Rattle.goal_model.specs.declared.namespace.Meaning.TheVariants as meanings
use Rattle.goal_model.specs.Scopes.{Meaning, a_variable, another}

abbrev pub meaning_view : code.Meaning → Meaning
meaning_view (meanings.Variable x) = a_variable x.0
meaning_view (meanings.Another kind place) = another kind place

-- a variable's number is below a count
abbrev pub IsVariableOf : ℕ → code.Meaning → Type 0
IsVariableOf count (meanings.Variable x) = x.0 < count
IsVariableOf count (meanings.Another kind place) = Unit {0}
