use Rattle.std.proofs.Common.{◌^◌, ℕ, true, refl, subst}
use Rattle.std.specs.Prelude.{Ok, Err}
use Rattle.state_space.proofs.BitSets.{shifted_one}
use Rattle.bound_unfolding.specs.CoreForm.{lit, both}
use Rattle.formula_table.specs.CorePuts.{IsCorePut}
use Rattle.formula_table.specs.Tables.{closure_in}
use Rattle.formula_table.proofs.CorePuts.{refused_first, refused_second, then_both, joined_at, put_at}
use Rattle.formula_table.proofs.table.Table.put_term.Goals as goal

pub returns-in_err-here : goal.returns-in_err-here
returns-in_err-here c =
    let old = closure_in c.args.self.now in
    let new = closure_in c.put_node.new.self in
    let refusal = c.in_err-here.field-0.0 in
    let first = lit c.args.x.0 (2 ^ c.args.index) in
    let second = lit c.args.y.0 c.args.set.0 in
    let put = subst (λ (m : ℕ). IsCorePut (lit c.args.x.0 m) old new (Err refusal)) (shifted_one c.args.index c.requires) c.in_err-here.ensures in
    refused_first (both first second) first second (λ z. refl) c.from_residual.result refusal c.from_residual.ensures.1 old new put

pub returns-in_err-there : goal.returns-in_err-there
returns-in_err-there c =
    let old = closure_in c.args.self.now in
    let one = closure_in c.put_node.new.self in
    let new = closure_in c.put_node-2.new.self in
    let first = lit c.args.x.0 (2 ^ c.args.index) in
    let second = lit c.args.y.0 c.args.set.0 in
    let put = subst (λ (m : ℕ). IsCorePut (lit c.args.x.0 m) old one (Ok c.in_ok-here.here)) (shifted_one c.args.index c.requires) c.in_ok-here.ensures in
    refused_second (both first second) first second (λ z. refl) c.from_residual-in_err-there.result c.in_err-there.field-0.0 c.from_residual-in_err-there.ensures.1 old one new c.in_ok-here.here put c.in_err-there.ensures

pub returns : goal.returns
returns c =
    let old = closure_in c.args.self.now in
    let one = closure_in c.put_node.new.self in
    let two = closure_in c.put_node-2.new.self in
    let new = closure_in c.put_joined.new.self in
    let first = lit c.args.x.0 (2 ^ c.args.index) in
    let second = lit c.args.y.0 c.args.set.0 in
    let here = c.in_ok-here.here in
    let there = c.in_ok-there.there in
    let put = subst (λ (m : ℕ). IsCorePut (lit c.args.x.0 m) old one (Ok here)) (shifted_one c.args.index c.requires) c.in_ok-here.ensures in
    then_both (both first second) first second (λ z. refl) old one two new here there c.put_joined.result put c.in_ok-there.ensures
    (joined_at true two new here there first second c.put_joined.result (put_at first old one here put two c.in_ok-there.ensures.kept) c.in_ok-there.ensures.id c.put_joined.ensures)
