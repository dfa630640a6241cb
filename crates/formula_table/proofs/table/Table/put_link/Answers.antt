use Rattle.std.proofs.Common.{not}
use Rattle.bound_unfolding.specs.CoreForm.{after}
use Rattle.bound_unfolding.specs.CoreTree.{joined}
use Rattle.formula_table.specs.Closures.{formula_at}
use Rattle.formula_table.specs.Tables.{closure_in}
use Rattle.formula_table.proofs.Closed.{table_settled}
use Rattle.formula_table.proofs.CorePuts.{then_second, refused_rest, joined_over, joined_at}
use Rattle.formula_table.proofs.table.Table.put_link.Goals as goal

pub returns-in_err-on : goal.returns-in_err-on
returns-in_err-on c =
    let old = closure_in c.args.self.now in
    let new = closure_in c.put_step.new.self in
    let b = formula_at old c.args.b.0 in
    let on = joined (not c.args.each) (formula_at old c.args.a.0) (after (formula_at old c.args.rest.0)) in
    let settled = table_settled c.args.self.now.shapes.keys c.args.self.now.ordered c.args.b.0 c.requires.second in
    refused_rest (joined c.args.each b on) b on (joined_over c.args.each b on) c.from_residual.result c.in_err-on.field-0.0 c.from_residual.ensures.1 old new settled c.in_err-on.ensures

pub returns : goal.returns
returns c =
    let old = closure_in c.args.self.now in
    let mid = closure_in c.put_step.new.self in
    let new = closure_in c.put_joined.new.self in
    let b = formula_at old c.args.b.0 in
    let on = joined (not c.args.each) (formula_at old c.args.a.0) (after (formula_at old c.args.rest.0)) in
    let put = joined_at c.args.each mid new c.args.b c.in_ok-on.on b on c.put_joined.result (c.put_step.ensures.kept.1 c.args.b.0 c.requires.second) c.in_ok-on.ensures.id c.put_joined.ensures in
    then_second (joined c.args.each b on) b on (joined_over c.args.each b on) old mid new c.in_ok-on.on c.put_joined.result (table_settled c.args.self.now.shapes.keys c.args.self.now.ordered c.args.b.0 c.requires.second) c.in_ok-on.ensures put
