use Rattle.goal_model.specs.ModelViews.{model_of}
use Rattle.kaos_program.proofs.QueryParts.{answers_more}
use Rattle.kaos_program.proofs.check.answers.Goals as goal

pub queries-preserved : goal.queries-preserved
queries-preserved g c =
    answers_more (model_of c.args.model.now) c.space-space.result.now c.space-space.ensures.ranges c.args.budget c.args.queries.now c.queries.query-index c.query-item.result c.queries.answers.items _ c.in_ok-answer.field-0 c.queries-test.true c.query-item.is
    c.queries.invariant c.in_ok-answer.ensures c.in_ok-push.ensures.items
