use Rattle.std.proofs.Common.{◌≡◌, ◌≤◌, take, count_by}
use Rattle.verdict_report.specs.Reports.{is_held, is_failed, is_withheld}
use Rattle.verdict_report.proofs.totals.counts.Given as goal

abbrev pub invariant-entries : goal.invariant-entries
invariant-entries l = record {
  held : l.totals.held ≡ count_by (λ e. is_held e.verdict) (take l.entry-index l.report.entries.items);
  failed : l.totals.failed ≡ count_by (λ e. is_failed e.verdict) (take l.entry-index l.report.entries.items);
  withheld : l.totals.withheld ≡ count_by (λ e. is_withheld e.verdict) (take l.entry-index l.report.entries.items);
  few_held : l.totals.held ≤ l.entry-index;
  few_failed : l.totals.failed ≤ l.entry-index;
  few_withheld : l.totals.withheld ≤ l.entry-index;
}
