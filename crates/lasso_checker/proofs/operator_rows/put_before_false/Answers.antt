use Rattle.std.proofs.Common.{◌+◌, arith}
use Rattle.lasso_checker.proofs.KeptRows.{row_kept}
use Rattle.lasso_checker.proofs.operator_rows.put_before_false.Goals as goal

pub returns-clause-first : goal.returns-clause-first
returns-clause-first c =
    let l = c.args.layout.now in
    row_kept c.args.table.now c.constant_row.new.table c.args.base (c.args.base + l.words) l.words l.start l.turn l.turns l.enough (omega arith) c.constant_row.ensures.below

pub returns-clause-below : goal.returns-clause-below
returns-clause-below c k s = c.constant_row.ensures.below k (omega arith)
