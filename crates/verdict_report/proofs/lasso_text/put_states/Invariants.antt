use Rattle.std.proofs.Common.{◌≡◌, ◌++◌, drop}
use Rattle.std.specs.List.{flat_map}
use Rattle.state_space.specs.Spaces.{names, ranges}
use Rattle.temporal_logic.specs.Rows.{rows}
use Rattle.verdict_report.specs.LassoTexts.{state_text}
use Rattle.verdict_report.proofs.lasso_text.put_states.Given as goal

abbrev pub invariant-states : goal.invariant-states
invariant-states l = l.out.items ++ flat_map (state_text (names l.space) (ranges l.space)) (rows (drop l.state-index l.states)) ≡ l.fn.out.items ++ flat_map (state_text (names l.space) (ranges l.space)) (rows l.states)
