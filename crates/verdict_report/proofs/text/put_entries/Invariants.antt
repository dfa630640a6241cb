use Rattle.std.proofs.Common.{◌≡◌, ◌++◌, drop}
use Rattle.std.specs.List.{flat_map}
use Rattle.state_space.specs.Spaces.{names, ranges}
use Rattle.verdict_report.specs.ReportTexts.{entry_text}
use Rattle.verdict_report.proofs.text.put_entries.Given as goal

abbrev pub invariant-entries : goal.invariant-entries
invariant-entries l = l.out.items ++ flat_map (entry_text l.form (names l.space) (ranges l.space)) (drop l.entry-index l.entries) ≡ l.fn.out.items ++ flat_map (entry_text l.form (names l.space) (ranges l.space)) l.entries
