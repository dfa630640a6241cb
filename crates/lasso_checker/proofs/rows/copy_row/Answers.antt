use Rattle.std.proofs.Common.{◌≡◌, arith, ⊎_elim}
use Rattle.temporal_logic.proofs.Equivalences.{value_iff}
use Rattle.lasso_checker.specs.Places.{bit_of}
use Rattle.lasso_checker.proofs.WordRows.{worked_none, worked_more, worked_all, word_bit, word_bit_before}
use Rattle.lasso_checker.proofs.rows.copy_row.Goals as goal

pub row-init : goal.row-init
row-init c = worked_none _ _ _

pub row-preserved : goal.row-preserved
row-preserved c =
    worked_more _ _ _ _ _ c.row.invariant _ (omega arith)
    (λ q e. value_iff (λ v. v ≡ 1) (⊎_elim (λ a. word_bit_before _ _ _ _ _ c.row.invariant c.args.from q (omega arith) e) (λ b. word_bit _ _ _ _ _ c.row.invariant c.args.from q (omega arith) e) c.requires.apart))

pub returns-clause-row : goal.returns-clause-row
returns-clause-row c =
    let l = c.args.layout.now in
    worked_all (λ q. bit_of c.args.table.now c.args.from q ≡ 1) c.args.table.now c.row.table c.args.base l.words l.start l.turn c.row.word l.turns l.enough (omega arith) c.row.invariant

pub returns-clause-below : goal.returns-clause-below
returns-clause-below c = c.row.invariant.below
