use Rattle.std.proofs.Common.{IsTrue}
use Rattle.lasso_checker.proofs.WordRows.{Worked}
use Rattle.lasso_checker.proofs.rows.constant_row.Given as goal

abbrev pub invariant-row : goal.invariant-row
invariant-row l = Worked (λ q. IsTrue l.value) l.fn.table l.table l.base l.word
