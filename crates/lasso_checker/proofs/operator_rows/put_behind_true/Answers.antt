use Rattle.std.proofs.Common.{◌+◌, ◌∙◌, arith}
use Rattle.temporal_logic.proofs.Equivalences.{iff_trans}
use Rattle.lasso_checker.proofs.KeptRows.{row_same}
use Rattle.lasso_checker.proofs.operator_rows.put_behind_true.Goals as goal

pub returns-clause-second : goal.returns-clause-second
returns-clause-second c i =
    let l = c.args.layout.now in
    iff_trans (row_same c.copy_row.new.table c.constant_row.new.table (c.args.base + l.words) l.words l.start l.turn l.turns l.enough (λ k a b. c.constant_row.ensures.above k (omega arith)) i) (c.copy_row.ensures.row i)

pub returns-clause-below : goal.returns-clause-below
returns-clause-below c k s = c.constant_row.ensures.below k s ∙ c.copy_row.ensures.below k (omega arith)
