use Rattle.std.proofs.Common.{◌≡◌, ◌++◌, drop}
use Rattle.state_space.specs.Spaces.{names, ranges}
use Rattle.verdict_report.specs.LassoTexts.{values_text}
use Rattle.verdict_report.proofs.lasso_text.put_values.Given as goal

abbrev pub invariant-values : goal.invariant-values
invariant-values l = l.out.items ++ values_text (drop l.x (names l.space)) (drop l.x (ranges l.space)) (drop l.x l.values) ≡ l.fn.out.items ++ values_text (names l.space) (ranges l.space) l.values
