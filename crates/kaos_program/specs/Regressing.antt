-- What is told of a goal under `regress`: its candidates and how each stands, and the bytes of that.
use Rattle.std.specs.Prelude.{ℕ, ◌+◌, Bool, true, false, List, [], ◌∷◌, ◌++◌, Option, codes, decimal, bytes_eq, if◌then◌else◌}
use Rattle.std.specs.List.{list_any, position}
use Rattle.bound_unfolding.specs.CoreForm.{CoreForm}
use Rattle.bound_unfolding.specs.CoreTexts.{core_text}
use Rattle.goal_model.specs.Models.{ModelForm}
use Rattle.obstacle_regression.specs.declared.standing.Standing.{Standing}
use Rattle.obstacle_regression.specs.declared.standing.Standing.TheVariants.{Possible, Impossible, Withheld}
use Rattle.obstacle_regression.specs.Candidates.{FoundForm}
use Rattle.kaos_program.specs.declared.status.Status.{Status}
use Rattle.kaos_program.specs.declared.status.Status.TheVariants as statuses

-- the place of the goal of a name
abbrev pub goal_named : ModelForm → (name : List ℕ) → Option ℕ
goal_named m name = position (λ g. bytes_eq g.name name) m.goals

abbrev pub is_withheld : Standing → Bool
is_withheld (Withheld budget) = true
is_withheld _ = false

-- whether some candidate is withheld
abbrev pub status_of_standings : List Standing → Status
status_of_standings standings = if list_any is_withheld standings then statuses.Withheld else statuses.Held

abbrev pub standing_text : Standing → List ℕ
standing_text Possible = codes "possible"
standing_text Impossible = codes "impossible"
standing_text (Withheld budget) = codes "withheld at " ++ decimal budget

-- `candidate NUMBER: CORE: STANDING`
unfoldable pub candidate_line : ModelForm → (number : ℕ) → CoreForm → Standing → List ℕ
candidate_line m number c s = codes "candidate " ++ decimal number ++ codes ": " ++ core_text m.names m.ranges c ++ codes ": " ++ standing_text s ++ codes "\n"

-- a line for each candidate, which has a standing of its own; numbers go on from this one
abbrev pub candidate_lines : ModelForm → (number : ℕ) → List CoreForm → List Standing → List ℕ
candidate_lines m number [] standings = []
candidate_lines m number (c ∷ cs) [] = []
candidate_lines m number (c ∷ cs) (s ∷ standings) = candidate_line m number c s ++ candidate_lines m (number + 1) cs standings

-- whether a candidate was left out
abbrev pub more_line : Bool → List ℕ
more_line more = codes "more: " ++ (if more then codes "yes" else codes "no") ++ codes "\n"

-- the whole output of `regress`: `kaos regress 1` and the budget, a line for each candidate, numbered from 1, and whether there are more
unfoldable pub regression_text : (budget : ℕ) → ModelForm → FoundForm → List Standing → List ℕ
regression_text budget m found standings = codes "kaos regress 1 budget " ++ decimal budget ++ codes "\n" ++ candidate_lines m 1 found.list standings ++ more_line found.more
