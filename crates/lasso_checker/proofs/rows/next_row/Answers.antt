use Rattle.std.proofs.Common.{arith, ◌∙◌}
use Rattle.lasso_checker.proofs.WordRows.{worked_none, worked_more}
use Rattle.lasso_checker.proofs.Stepping.{moved_bit, next_is}
use Rattle.lasso_checker.proofs.rows.next_row.Goals as goal

pub row-init : goal.row-init
row-init c = worked_none _ _ _

pub row-preserved : goal.row-preserved
row-preserved c =
    let l = c.args.layout.now in
    worked_more _ _ _ _ _ c.row.invariant c.moved.result (omega arith) (moved_bit c.args.table.now c.row.table c.args.base l.words c.row.word (omega arith) c.row.invariant c.moved.result c.enters-entering.result c.enters-entering.ensures.bit c.moved.ensures.here c.moved.ensures.rest)

pub returns-clause-row : goal.returns-clause-row
returns-clause-row c =
    let l = c.args.layout.now in
    next_is l.start l.turn l.turns c.args.table.now c.args.base c.row.table c.set_bit.new.table l.words c.get_bit-back.result l.enough c.get_bit-back.ensures.bit (λ q s. c.row.invariant.done q (omega arith)) c.set_bit.ensures.here c.set_bit.ensures.rest

pub returns-clause-below : goal.returns-clause-below
returns-clause-below c k l = c.set_bit.ensures.words k (omega arith) ∙ c.row.invariant.below k l
