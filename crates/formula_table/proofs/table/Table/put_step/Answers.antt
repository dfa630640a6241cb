use Rattle.bound_unfolding.specs.CoreForm.{after}
use Rattle.bound_unfolding.specs.CoreTree.{joined}
use Rattle.formula_table.specs.Closures.{formula_at}
use Rattle.formula_table.specs.Tables.{closure_in}
use Rattle.formula_table.proofs.Closed.{table_settled}
use Rattle.formula_table.proofs.CorePuts.{then_second, refused_rest, joined_over, joined_at}
use Rattle.formula_table.proofs.table.Table.put_step.Goals as goal

pub returns-in_err-later : goal.returns-in_err-later
returns-in_err-later c =
    let old = closure_in c.args.self.now in
    let new = closure_in c.put_after.new.self in
    let a = formula_at old c.args.a.0 in
    let b = after (formula_at old c.args.rest.0) in
    let settled = table_settled c.args.self.now.shapes.keys c.args.self.now.ordered c.args.a.0 c.requires.first in
    refused_rest (joined c.args.each a b) a b (joined_over c.args.each a b) c.from_residual.result c.in_err-later.field-0.0 c.from_residual.ensures.1 old new settled c.in_err-later.ensures

pub returns : goal.returns
returns c =
    let old = closure_in c.args.self.now in
    let mid = closure_in c.put_after.new.self in
    let new = closure_in c.put_joined.new.self in
    let a = formula_at old c.args.a.0 in
    let b = after (formula_at old c.args.rest.0) in
    let put = joined_at c.args.each mid new c.args.a c.in_ok-later.later a b c.put_joined.result (c.put_after.ensures.kept.1 c.args.a.0 c.requires.first) c.in_ok-later.ensures.id c.put_joined.ensures in
    then_second (joined c.args.each a b) a b (joined_over c.args.each a b) old mid new c.in_ok-later.later c.put_joined.result (table_settled c.args.self.now.shapes.keys c.args.self.now.ordered c.args.a.0 c.requires.first) c.in_ok-later.ensures put
