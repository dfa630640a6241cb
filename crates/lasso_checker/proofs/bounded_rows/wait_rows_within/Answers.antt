use Rattle.std.proofs.Common.{◌+◌, ◌≡◌, ◌↔◌, ◌∙◌, arith, subst, IsTrue}
use Rattle.temporal_logic.proofs.Equivalences.{iff_trans}
use Rattle.lasso_checker.specs.Places.{KeepsBelow}
use Rattle.lasso_checker.specs.Layouts.{Row}
use Rattle.lasso_checker.specs.Operators.{WaitsBefore}
use Rattle.lasso_checker.proofs.Congruence.{steps_iff}
use Rattle.lasso_checker.proofs.KeptRows.{row_kept}
use Rattle.lasso_checker.proofs.TwoPasses.{one_decided}
use Rattle.lasso_checker.proofs.BoundedSteps.{no_step, one_step}
use Rattle.lasso_checker.proofs.bounded_rows.wait_rows_within.Goals as goal

pub steps-init : goal.steps-init
steps-init c =
    let l = c.args.layout.now in
    let third = c.args.base + l.words + l.words in
    record {
      steps = λ i. no_step c.args.waiting (Row l c.args.table.now c.args.base) (Row l c.args.table.now (c.args.base + l.words)) (Row l c.constant_row.new.table third) i (subst (λ b. Row l c.constant_row.new.table third i ↔ IsTrue b) c.start.ensures.start (c.constant_row.ensures.row i));
      kept = c.constant_row.ensures.below;
    }

pub steps-preserved : goal.steps-preserved
steps-preserved c =
    let l = c.args.layout.now in
    let old = c.args.table.now in
    let second = c.args.base + l.words in
    let third = second + l.words in
    let kept : KeepsBelow third old c.next_row.new.table = λ k s. c.next_row.ensures.below k s ∙ c.steps.invariant.kept k s in
    let one = row_kept old c.next_row.new.table c.args.base third l.words l.start l.turn l.turns l.enough (omega arith) kept in
    let other = row_kept old c.next_row.new.table second third l.words l.start l.turn l.turns l.enough (omega arith) kept in
    record {
      steps = one_step c.args.waiting (Row l old c.args.base) (Row l old second) (one_decided c.args.waiting old c.args.base l.words l.start l.turn l.turns) (Row l c.steps.table third) (Row l c.step_rows.new.table third) c.steps._step c.steps.invariant.steps (λ i. iff_trans (c.step_rows.ensures.row i) (steps_iff c.args.waiting (one i) (other i) (c.next_row.ensures.row i)));
      kept = λ k s. c.step_rows.ensures.below k s ∙ kept k s;
    }

pub returns-clause-row : goal.returns-clause-row
returns-clause-row c i =
    let l = c.args.layout.now in
    let P = Row l c.args.table.now c.args.base in
    let Q = Row l c.args.table.now (c.args.base + l.words) in
    let all : i + c.steps._step ≡ i + c.args.bound + 1 = omega arith in
    subst (λ n. Row l c.copy_row.new.table c.args.base i ↔ WaitsBefore c.args.waiting n P Q i) all (iff_trans (c.copy_row.ensures.row i) (c.steps.invariant.steps i))

pub returns-clause-below : goal.returns-clause-below
returns-clause-below c k l = c.copy_row.ensures.below k l ∙ c.steps.invariant.kept k (omega arith)
