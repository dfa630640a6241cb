use Rattle.std.proofs.Common.{take}
use Rattle.std.specs.List.{AllZip}
use Rattle.bound_unfolding.specs.CoreView.{core_tree_of}
use Rattle.goal_model.specs.ModelViews.{model_of}
use Rattle.obstacle_regression.specs.Standings.{StandsSo}
use Rattle.obstacle_regression.proofs.standing.standings.Given as goal

abbrev pub invariant-candidates : goal.invariant-candidates
invariant-candidates g l = AllZip (λ c s. StandsSo (model_of l.model) l.budget (core_tree_of c) s) (take l.candidate-index l.candidates) l.standings.items
