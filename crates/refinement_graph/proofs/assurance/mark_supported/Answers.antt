use Rattle.std.proofs.Common.{sym, ◌∙◌}
use Rattle.refinement_graph.proofs.MarkedGoals.{supported_below, marks_goal}
use Rattle.refinement_graph.proofs.assurance.mark_supported.Goals as goal

pub returns-in-Some : goal.returns-in-Some
returns-in-Some c =
    let gives = sym c.supported.ensures ∙ c.in-Some.is in
    marks_goal _ c.args.marks.now c.in-Some.goal (supported_below _ c.args.marks.now _ c.in-Some.goal c.requires gives) gives c.if-not-marks-goal.true
