-- The bytes of the truth of goals on traces.
use Rattle.std.specs.Prelude.{Bool, List, [], ◌∷◌, ℕ, ◌++◌, codes, if◌then◌else◌}
use Rattle.goal_model.specs.Models.{GoalForm, TraceForm, ModelForm}

-- `trace T G: true` or `false`
abbrev pub truth_line : (trace goal : List ℕ) → Bool → List ℕ
truth_line x g b = codes "trace " ++ x ++ codes " " ++ g ++ codes ": " ++ (if b then codes "true" else codes "false") ++ codes "\n"

-- a line for each goal, of the truth that the row has for it
abbrev pub lines_on : List ℕ → List GoalForm → List Bool → List ℕ
lines_on x [] bs = []
lines_on x (g ∷ gs) [] = []
lines_on x (g ∷ gs) (b ∷ bs) = truth_line x g.name b ++ lines_on x gs bs

-- the lines of each trace, which has a row of its own
abbrev pub row_lines : List GoalForm → List TraceForm → List (List Bool) → List ℕ
row_lines goals [] rows = []
row_lines goals (t ∷ ts) [] = []
row_lines goals (t ∷ ts) (row ∷ rows) = lines_on t.name goals row ++ row_lines goals ts rows

-- the whole output of `trace`: `kaos trace 1`, and a line for each trace and goal
unfoldable pub truths_text : ModelForm → List (List Bool) → List ℕ
truths_text m rows = codes "kaos trace 1\n" ++ row_lines m.goals m.traces rows
