use Rattle.std.proofs.Common.{◌≤◌, ◌∙◌, ap, sym, subst, length, arith}
use Rattle.std.proofs.lemmas.List.{length-take}
use Rattle.formula_table.specs.Decoding.{decoded, OperandsFirst}
use Rattle.formula_table.specs.Distinct.{IsDistinct}
use Rattle.formula_table.proofs.Truncated.{decoded-take, OperandsFirst-take, IsDistinct-take}
use Rattle.formula_table.proofs.table.Table.truncate.Goals as goal

pub invariant_of-self-clause-few : goal.invariant_of-self-clause-few
invariant_of-self-clause-few c =
    let t = c.args.self.now in
    let few : length t.shapes.keys ≤ 4096 = t.few in
    let l = length-take c.args.len t.shapes.keys in
    let e = ap length c.truncate.ensures.keys in
    omega (arith, e, l, few)

pub invariant_of-self-clause-ordered : goal.invariant_of-self-clause-ordered
invariant_of-self-clause-ordered c =
    let t = c.args.self.now in
    subst (OperandsFirst 0) (sym c.truncate.ensures.keys) (OperandsFirst-take 0 c.args.len t.shapes.keys t.ordered)

pub invariant_of-self-clause-distinct : goal.invariant_of-self-clause-distinct
invariant_of-self-clause-distinct c =
    let t = c.args.self.now in
    let e = ap decoded c.truncate.ensures.keys ∙ decoded-take c.args.len t.shapes.keys in
    subst IsDistinct (sym e) (IsDistinct-take c.args.len (decoded t.shapes.keys) t.distinct)

pub returns : goal.returns
returns c = ap decoded c.truncate.ensures.keys ∙ decoded-take c.args.len c.args.self.now.shapes.keys
