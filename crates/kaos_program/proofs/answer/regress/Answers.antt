use Rattle.std.proofs.Common.{◌∙◌}
use Rattle.goal_model.specs.ModelViews.{model_of}
use Rattle.obstacle_regression.specs.Views.{regressed_of}
use Rattle.kaos_program.proofs.Answering.{unnamed, told_candidates}
use Rattle.kaos_program.proofs.answer.regress.Goals as goal

pub returns-in_default-clause-answered : goal.returns-in_default-clause-answered
returns-in_default-clause-answered g c bytes ss accepted =
    let answer = c.refused.ensures in
    unnamed bytes ss (model_of c.args.model.now) c.args.name.now c.args.depth c.args.budget c.refused.result.status c.refused.result.report c.refused.result.output.items accepted c.in_default.ensures.place answer.0 answer.1
    (answer.2 ∙ c.in_ok-no_goal.ensures)

pub returns-clause-answered : goal.returns-clause-answered
returns-clause-answered g c bytes ss accepted =
    let told = c.in_ok-regression.regression in
    told_candidates bytes ss (model_of c.args.model.now) c.args.name.now c.in-Some.goal c.args.depth c.args.budget (regressed_of told.found) told.standings.items c.status_of_standings.result c.in_ok-output.output.items accepted
    c.in-Some.ensures.place c.in_ok-regression.ensures.found c.in_ok-regression.ensures.standings (rw c.deref.ensures.value at c.status_of_standings.ensures) c.in_ok-output.ensures
