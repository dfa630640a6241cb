-- What two right answers have in common.
use Rattle.std.specs.Prelude.{List, map}
use Rattle.goal_model.specs.Items.{LabelForm, label_of}
use Rattle.verdict_report.specs.declared.report.Verdict.{Verdict}
use Rattle.verdict_report.specs.declared.report.Report.{Report}

-- the labels of a report with their verdicts
abbrev pub verdicts_in : Report → List (LabelForm × Verdict)
verdicts_in report = map (λ e. (label_of e.label, e.verdict)) report.entries.items
