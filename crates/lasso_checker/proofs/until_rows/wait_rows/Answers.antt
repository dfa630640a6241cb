use Rattle.std.proofs.Common.{◌+◌, ◌-◌, ◌↔◌, arith, subst, sym, IsTrue}
use Rattle.lasso_checker.specs.Layouts.{Row}
use Rattle.lasso_checker.specs.Operators.{Waits, WaitsBefore}
use Rattle.lasso_checker.proofs.Filling.{filled_none, filled_more, filled_all}
use Rattle.lasso_checker.proofs.Unfoldings.{starts_waiting}
use Rattle.lasso_checker.proofs.TwoPasses.{turn_step, all_step, second_begins, waits_repeat}
use Rattle.lasso_checker.proofs.until_rows.wait_rows.Goals as goal

pub turn-init : goal.turn-init
turn-init c =
    let l = c.args.layout.now in
    let P = Row l c.args.table.now c.args.base in
    let Q = Row l c.args.table.now (c.args.base + l.words) in
    record {
      now_is = subst (λ b. IsTrue b ↔ WaitsBefore c.args.waiting (l.start + l.turn) P Q (l.start + l.turn)) (sym c.start-now.ensures.start) (starts_waiting P Q c.args.waiting (l.start + l.turn) (l.start + l.turn) (omega arith));
      from_start = omega arith;
    }

pub turn-preserved : goal.turn-preserved
turn-preserved c =
    let l = c.args.layout.now in
    record {
      now_is = turn_step c.args.waiting c.args.table.now c.args.base l.words l.start l.turn l.turns c.turn.place (c.turn.place - 1) c.wait_at-now.result c.turn.now (omega arith) (omega arith) c.turn.invariant.now_is c.wait_at-now.ensures.step;
      from_start = omega arith;
    }

pub all-init : goal.all-init
all-init c =
    let l = c.args.layout.now in
    record {
      now_is = second_begins c.args.waiting c.args.table.now c.args.base l.words l.start l.turn l.turns c.turn.now c.turn.place (omega arith) c.turn.invariant.now_is;
      filled = filled_none _ _ _ _ _;
    }

pub all-preserved : goal.all-preserved
all-preserved c =
    let l = c.args.layout.now in
    let step = all_step c.args.waiting c.args.table.now c.args.base l.words l.start l.turn l.turns c.all.table c.all.place (c.all.place - 1) c.wait_at-now-in-all.result c.all.now (omega arith) (omega arith) c.all.invariant.filled c.all.invariant.now_is c.wait_at-now-in-all.ensures.step in
    record {
      now_is = step;
      filled = filled_more _ _ _ _ _ _ _ _ _ _ (omega arith) (omega arith) (omega arith) c.all.invariant.filled c.set_bit.ensures.here c.set_bit.ensures.rest c.set_bit.ensures.words step;
    }

pub returns-clause-row : goal.returns-clause-row
returns-clause-row c =
    let l = c.args.layout.now in
    let P = Row l c.args.table.now c.args.base in
    let Q = Row l c.args.table.now (c.args.base + l.words) in
    filled_all (Waits c.args.waiting P Q) c.args.table.now c.all.table c.args.base l.words l.start l.turn c.all.place l.turns (waits_repeat c.args.waiting c.args.table.now c.args.base l.words l.start l.turn l.turns) (omega arith) c.all.invariant.filled

pub returns-clause-below : goal.returns-clause-below
returns-clause-below c = c.all.invariant.filled.below
