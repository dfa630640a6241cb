use Rattle.std.proofs.Common.{map}
use Rattle.goal_model.specs.ModelViews.{model_of}
use Rattle.kaos_program.proofs.Answering.{traced}
use Rattle.kaos_program.proofs.answer.trace.Goals as goal

pub returns-clause-answered : goal.returns-clause-answered
returns-clause-answered c bytes ss accepted =
    traced bytes ss (model_of c.args.model.now) (map (λ row. row.items) c.in_ok-rows.rows.items) c.status_of_truths.result c.in_ok-output.output.items accepted c.in_ok-rows.ensures.truths
    (rw c.deref-2.ensures.value at c.status_of_truths.ensures) (rw c.deref.ensures.value at c.in_ok-output.ensures)
