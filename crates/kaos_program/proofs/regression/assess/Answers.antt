use Rattle.bound_unfolding.specs.CoreView.{core_tree_of}
use Rattle.goal_model.specs.ModelViews.{model_of}
use Rattle.obstacle_regression.specs.Standings.{StandsSo}
use Rattle.kaos_program.proofs.GoalPlaces.{zip_mapped}
use Rattle.kaos_program.proofs.regression.assess.Goals as goal

pub returns-clause-standings : goal.returns-clause-standings
returns-clause-standings g c =
    zip_mapped (StandsSo (model_of c.args.model.now) c.args.budget) core_tree_of c.in_ok-found.found.list.items c.in_ok-standings.standings.items
    (rw c.deref.ensures.value at c.in_ok-standings.ensures)
