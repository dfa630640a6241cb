-- When truth values are those of the goals of a model on its traces.
use Rattle.std.specs.Prelude.{◌↔◌, Bool, List, [], ◌∷◌, IsTrue}
use Rattle.temporal_logic.specs.Truth.{Trace, Truth}
use Rattle.temporal_logic.specs.Rows.{from_lists}
use Rattle.goal_model.specs.Models.{GoalForm, TraceForm, ModelForm}

-- one truth value for each goal, in order: whether the goal is true at the start of the trace
abbrev pub AreTruthsOn : Trace → List GoalForm → List Bool → Type 0
AreTruthsOn t [] [] = Unit {0}
AreTruthsOn t (g ∷ gs) (b ∷ bs) = (IsTrue b ↔ Truth t g.formula 0) × AreTruthsOn t gs bs
AreTruthsOn t [] (b ∷ bs) = ⊥
AreTruthsOn t (g ∷ gs) [] = ⊥

-- the truth values of the goals on each trace, in order
abbrev pub AreTruthRows : List GoalForm → List TraceForm → List (List Bool) → Type 0
AreTruthRows goals [] [] = Unit {0}
AreTruthRows goals (t ∷ ts) (row ∷ rows) = AreTruthsOn (from_lists t.prefix t.cycle) goals row × AreTruthRows goals ts rows
AreTruthRows goals [] (row ∷ rows) = ⊥
AreTruthRows goals (t ∷ ts) [] = ⊥

-- for each trace of the model a row, with the truth of each goal at the start of that trace
abbrev pub AreTruths : ModelForm → List (List Bool) → Type 0
AreTruths m rows = AreTruthRows m.goals m.traces rows
