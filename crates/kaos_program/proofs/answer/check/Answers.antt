use Rattle.goal_model.specs.ModelViews.{model_of}
use Rattle.verdict_report.specs.Reports.{questions_of}
use Rattle.kaos_program.specs.Answering.{a_report}
use Rattle.kaos_program.proofs.Achieved.{all_achieved}
use Rattle.kaos_program.proofs.FittingEvidence.{each_goal_fits, report_fits}
use Rattle.kaos_program.proofs.answer.check.Goals as goal

pub form_text-requires : goal.form_text-requires
form_text-requires g c =
    let m = model_of c.args.model.now in
    report_fits m (each_goal_fits m c.args.model.now.well_formed.parts.goals) c.args.budget c.in_ok-report.report c.in_ok-report.ensures.right

pub returns-clause-answered : goal.returns-clause-answered
returns-clause-answered g c bytes ss accepted =
    let m = model_of c.args.model.now in
    let report = c.in_ok-report.report in
    let right = c.in_ok-report.ensures.right in
    rw (c.status_of.ensures, c.in_ok-output.ensures) (a_report ss m c.args.budget c.args.form report accepted right (all_achieved m c.args.budget (questions_of m) report.entries.items right.entries))
