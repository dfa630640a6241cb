-- How a candidate stands under a budget.
use Rattle.std.specs.Prelude.{◌≡◌, ℕ, List, ◌∷◌, [], ◌++◌}
use Rattle.temporal_logic.specs.Truth.{Trace}
use Rattle.bound_unfolding.specs.CoreForm.{CoreForm, CoreTruth}
use Rattle.bound_unfolding.specs.CoreLists.{cores_of}
use Rattle.tableau_rules.specs.declared.answer.Answer.{Answer}
use Rattle.tableau_rules.specs.declared.answer.Answer.TheVariants as answers
use Rattle.tableau_rules.specs.Graphs.{IsWithin, IsLarger}
use Rattle.goal_model.specs.Models.{ModelForm, sizes_of}
use Rattle.operationalisation.specs.Operationalisations.{IsOfDomain}
use Rattle.obstacle_regression.specs.declared.standing.Standing.{Standing}
use Rattle.obstacle_regression.specs.declared.standing.Standing.TheVariants.{Possible, Impossible, Withheld}
use Rattle.obstacle_regression.specs.Regressions.{domain_formulas}

-- some trace of the domain makes the core true at its start
abbrev pub HasCandidate : ModelForm → CoreForm → Type 0
HasCandidate m c = (t : Trace) × IsOfDomain m t × CoreTruth t c 0

-- the query that decides it: the cores of the domain properties, and the candidate
abbrev pub candidate_query : ModelForm → CoreForm → List CoreForm
candidate_query m c = cores_of (sizes_of m) (domain_formulas m) ++ c ∷ []

-- possible or not, as it is over all traces, where the tableau has no more nodes than the budget; else withheld
abbrev pub StandsSo : ModelForm → (budget : ℕ) → CoreForm → Standing → Type 0
StandsSo m budget c Possible = HasCandidate m c × IsWithin (sizes_of m) (candidate_query m c) budget
StandsSo m budget c Impossible = (HasCandidate m c → ⊥) × IsWithin (sizes_of m) (candidate_query m c) budget
StandsSo m budget c (Withheld number) = (number ≡ budget) × IsLarger (sizes_of m) (candidate_query m c) budget

-- what an answer to the query tells
abbrev pub standing_told : Answer → Standing
standing_told (answers.Empty cert) = Impossible
standing_told (answers.Found lasso) = Possible
standing_told (answers.Withheld number) = Withheld number
