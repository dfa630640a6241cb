use Rattle.std.specs.Prelude.{All}
use Rattle.temporal_logic.specs.Fits.{Fits}
use Rattle.temporal_logic.specs.Trees.{tree_of}
use Rattle.goal_model.specs.ModelViews.{model_of}
use Rattle.engine_tests.proofs.reading.formulas.Given as goal

abbrev pub invariant-goals : goal.invariant-goals
invariant-goals l = All (λ f. Fits (model_of l.model).ranges (tree_of f)) l.list.items
