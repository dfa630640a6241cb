use Rattle.std.proofs.Common.{sym, ap, subst, List, length, ◌≡◌, arith}
use Rattle.std.specs.Prelude.{slice_index_or}
use Rattle.formula_table.specs.declared.shape.Shape.{Shape}
use Rattle.formula_table.specs.declared.shape.Shape.TheVariants.{True}
use Rattle.formula_table.specs.Closures.{formula_at}
use Rattle.formula_table.specs.Decoding.{formula_of, OperandsBelow, decoded}
use Rattle.formula_table.proofs.Decodings.{decoded_length, shape_formula, shape_below}
use Rattle.formula_table.proofs.table.Table.node.Goals as goal

pub bounds-as_slice-id : goal.bounds-as_slice-id
bounds-as_slice-id c =
    let e = ap length c.as_slice.ensures.keys in
    let l = decoded_length c.args.self.now.shapes.keys in
    omega (arith, e, l)

pub returns-clause-formula : goal.returns-clause-formula
returns-clause-formula c =
    let ss = c.args.self.now.shapes.keys in
    subst (λ (xs : List Shape). formula_of (decoded ss) (slice_index_or xs c.args.id.0 True) ≡ formula_at (decoded ss) c.args.id.0) (sym c.as_slice.ensures.keys) (shape_formula ss c.args.self.now.ordered c.args.id.0 c.requires)

pub returns-clause-below : goal.returns-clause-below
returns-clause-below c =
    let ss = c.args.self.now.shapes.keys in
    subst (λ (xs : List Shape). OperandsBelow c.args.id.0 (slice_index_or xs c.args.id.0 True)) (sym c.as_slice.ensures.keys) (shape_below ss c.args.self.now.ordered c.args.id.0 c.requires)
