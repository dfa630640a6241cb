use Rattle.std.proofs.Common.{ℕ, ◌+◌, refl, add-one}
use Rattle.std.specs.Prelude.{Ok, Err}
use Rattle.bound_unfolding.specs.CoreTree.{chain}
use Rattle.formula_table.specs.Closures.{formula_at}
use Rattle.formula_table.specs.Tables.{closure_in}
use Rattle.formula_table.proofs.Closed.{table_settled, already_put}
use Rattle.formula_table.proofs.StepLaws.{one_more, none_more, chain_again, chain_more, link_at}
use Rattle.formula_table.proofs.table.Table.put_chain.Goals as goal

pub chain-init : goal.chain-init
chain-init c = already_put c.args.self.now.shapes.keys c.args.self.now.ordered c.args.b (formula_at (closure_in c.args.self.now) c.args.b.0) c.requires.second refl

pub returns-in_err-all : goal.returns-in_err-all
returns-in_err-all c =
    let t = c.args.self.now in
    let old = closure_in t in
    let mid = closure_in c.chain.self in
    let new = closure_in c.put_link.new.self in
    let a = formula_at old c.args.a.0 in
    let b = formula_at old c.args.b.0 in
    let core = λ (k : ℕ). chain c.args.each k a b in
    let first = table_settled t.shapes.keys t.ordered c.args.a.0 c.requires.first in
    let second = table_settled t.shapes.keys t.ordered c.args.b.0 c.requires.second in
    let refusal = c.in_err-all.field-0.0 in
    none_more core old (chain_again c.args.each a b old first second) (chain_more c.args.each a b old first second) c.chain._step (c.chain._step + 1) (add-one c.chain._step) mid new c.chain.all c.chain.invariant c.args.bound c.chain-test.true c.from_residual.result refusal c.from_residual.ensures.1
    (link_at c.args.each a (core c.chain._step) mid new c.args.a c.chain.all (Err refusal) (c.chain.invariant.kept.1 c.args.a.0 c.requires.first) c.chain.invariant.id b c.args.b (c.chain.invariant.kept.1 c.args.b.0 c.requires.second) c.in_err-all.ensures)

pub chain-preserved : goal.chain-preserved
chain-preserved c =
    let t = c.args.self.now in
    let old = closure_in t in
    let mid = closure_in c.chain.self in
    let new = closure_in c.put_link.new.self in
    let a = formula_at old c.args.a.0 in
    let b = formula_at old c.args.b.0 in
    let core = λ (k : ℕ). chain c.args.each k a b in
    let first = table_settled t.shapes.keys t.ordered c.args.a.0 c.requires.first in
    let second = table_settled t.shapes.keys t.ordered c.args.b.0 c.requires.second in
    one_more core old (chain_again c.args.each a b old first second) (chain_more c.args.each a b old first second) c.chain._step (c.chain._step + 1) (add-one c.chain._step) mid new c.chain.all c.chain.invariant (Ok c.in_ok-all.all)
    (link_at c.args.each a (core c.chain._step) mid new c.args.a c.chain.all (Ok c.in_ok-all.all) (c.chain.invariant.kept.1 c.args.a.0 c.requires.first) c.chain.invariant.id b c.args.b (c.chain.invariant.kept.1 c.args.b.0 c.requires.second) c.in_ok-all.ensures)
