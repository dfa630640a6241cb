use Rattle.std.proofs.Common.{◌%◌, arith, IsTrue}
use Rattle.lasso_checker.proofs.WordRows.{worked_none, worked_more, worked_all}
use Rattle.lasso_checker.proofs.rows.constant_row.Goals as goal

pub row-init : goal.row-init
row-init c = worked_none _ _ _

pub row-preserved : goal.row-preserved
row-preserved c =
    worked_more _ _ _ _ _ c.row.invariant c.same_bits-everywhere.result (omega arith) (λ q e. c.same_bits-everywhere.ensures.bits (q % 64) (omega arith))

pub returns-clause-row : goal.returns-clause-row
returns-clause-row c =
    let l = c.args.layout.now in
    worked_all (λ q. IsTrue c.args.value) c.args.table.now c.row.table c.args.base l.words l.start l.turn c.row.word l.turns l.enough (omega arith) c.row.invariant

pub returns-clause-below : goal.returns-clause-below
returns-clause-below c = c.row.invariant.below

pub returns-clause-above : goal.returns-clause-above
returns-clause-above c k l = c.row.invariant.todo k (omega arith)
