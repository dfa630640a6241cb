use Rattle.std.proofs.Common.{◌+◌}
use Rattle.lasso_checker.specs.Places.{KeepsBelow}
use Rattle.lasso_checker.specs.Layouts.{Row, IsRowOf}
use Rattle.lasso_checker.specs.Operators.{WaitsBefore}
use Rattle.lasso_checker.proofs.bounded_rows.wait_rows_within.Given as goal

abbrev pub invariant-steps : goal.invariant-steps
invariant-steps l = record {
  steps : IsRowOf l.layout l.table l.third (λ i. WaitsBefore l.waiting (i + l._step) (Row l.layout l.fn.table l.base) (Row l.layout l.fn.table (l.base + l.layout.words)) i);
  kept : KeepsBelow l.third l.fn.table l.table;
}
