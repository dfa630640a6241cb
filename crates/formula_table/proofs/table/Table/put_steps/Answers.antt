use Rattle.std.proofs.Common.{ℕ, ◌+◌, refl, add-one}
use Rattle.std.specs.Prelude.{Ok, Err}
use Rattle.bound_unfolding.specs.CoreTree.{steps}
use Rattle.formula_table.specs.Closures.{formula_at}
use Rattle.formula_table.specs.Tables.{closure_in}
use Rattle.formula_table.proofs.Closed.{table_settled, already_put}
use Rattle.formula_table.proofs.StepLaws.{one_more, none_more, steps_again, steps_more, step_at}
use Rattle.formula_table.proofs.table.Table.put_steps.Goals as goal

pub steps-init : goal.steps-init
steps-init c = already_put c.args.self.now.shapes.keys c.args.self.now.ordered c.args.a (formula_at (closure_in c.args.self.now) c.args.a.0) c.requires refl

pub returns-in_err-all : goal.returns-in_err-all
returns-in_err-all c =
    let t = c.args.self.now in
    let old = closure_in t in
    let mid = closure_in c.steps.self in
    let new = closure_in c.put_step.new.self in
    let a = formula_at old c.args.a.0 in
    let core = λ (k : ℕ). steps c.args.each k a in
    let settled = table_settled t.shapes.keys t.ordered c.args.a.0 c.requires in
    let refusal = c.in_err-all.field-0.0 in
    none_more core old (steps_again c.args.each a old settled) (steps_more c.args.each a old settled) c.steps._step (c.steps._step + 1) (add-one c.steps._step) mid new c.steps.all c.steps.invariant c.args.bound c.steps-test.true c.from_residual.result refusal c.from_residual.ensures.1
    (step_at c.args.each a (core c.steps._step) mid new c.args.a c.steps.all (Err refusal) (c.steps.invariant.kept.1 c.args.a.0 c.requires) c.steps.invariant.id c.in_err-all.ensures)

pub steps-preserved : goal.steps-preserved
steps-preserved c =
    let t = c.args.self.now in
    let old = closure_in t in
    let mid = closure_in c.steps.self in
    let new = closure_in c.put_step.new.self in
    let a = formula_at old c.args.a.0 in
    let core = λ (k : ℕ). steps c.args.each k a in
    let settled = table_settled t.shapes.keys t.ordered c.args.a.0 c.requires in
    one_more core old (steps_again c.args.each a old settled) (steps_more c.args.each a old settled) c.steps._step (c.steps._step + 1) (add-one c.steps._step) mid new c.steps.all c.steps.invariant (Ok c.in_ok-all.all)
    (step_at c.args.each a (core c.steps._step) mid new c.args.a c.steps.all (Ok c.in_ok-all.all) (c.steps.invariant.kept.1 c.args.a.0 c.requires) c.steps.invariant.id c.in_ok-all.ensures)
