use Rattle.std.proofs.Common.{◌≡◌, ◌+◌, ◌%◌, arith}
use Rattle.temporal_logic.proofs.Equivalences.{iff_trans, value_iff}
use Rattle.lasso_checker.specs.Places.{bit_of}
use Rattle.lasso_checker.specs.Operators.{Steps}
use Rattle.lasso_checker.proofs.WordRows.{worked_none, worked_more, worked_all, word_bit, word_bit_before}
use Rattle.lasso_checker.proofs.Congruence.{steps_iff}
use Rattle.lasso_checker.proofs.rows.step_rows.Goals as goal

pub row-init : goal.row-init
row-init c = worked_none _ _ _

pub row-preserved : goal.row-preserved
row-preserved c =
    let l = c.args.layout.now in
    worked_more _ _ _ _ _ c.row.invariant c.words.result (omega arith)
    (λ q e. iff_trans (c.words.ensures.bits (q % 64) (omega arith)) (steps_iff c.args.waiting (value_iff (λ v. v ≡ 1) (word_bit_before _ _ _ _ _ c.row.invariant c.args.base q (omega arith) e)) (value_iff (λ v. v ≡ 1) (word_bit_before _ _ _ _ _ c.row.invariant (c.args.base + l.words) q (omega arith) e)) (value_iff (λ v. v ≡ 1) (word_bit _ _ _ _ _ c.row.invariant (c.args.base + l.words + l.words) q (omega arith) e))))

pub returns-clause-row : goal.returns-clause-row
returns-clause-row c =
    let l = c.args.layout.now in
    worked_all (λ q. Steps c.args.waiting (bit_of c.args.table.now c.args.base q ≡ 1) (bit_of c.args.table.now (c.args.base + l.words) q ≡ 1) (bit_of c.args.table.now (c.args.base + l.words + l.words) q ≡ 1)) c.args.table.now c.row.table (c.args.base + l.words + l.words) l.words l.start l.turn c.row.word l.turns l.enough (omega arith) c.row.invariant

pub returns-clause-below : goal.returns-clause-below
returns-clause-below c = c.row.invariant.below
