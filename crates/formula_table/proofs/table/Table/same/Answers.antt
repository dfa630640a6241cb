use Rattle.std.proofs.Common.{◌≡◌, ◌↔◌, IsTrue, ap, ap₂, ◌∙◌}
use Rattle.std.specs.Cmp.Lexicographic.{pointwise}
use Rattle.std.proofs.lemmas.Slice.Eq.{slice_eq-Decides}
use Rattle.formula_table.specs.contracts.shape.ShapePartialEq.TheImpl
use Rattle.formula_table.specs.Decoding.{decoded}
use Rattle.formula_table.proofs.Decodings.{decoded_once}
use Rattle.formula_table.proofs.ShapeEquality.{shape_eq}
use Rattle.formula_table.proofs.table.Table.same.Goals as goal

pub returns : goal.returns
returns c =
    let one = c.args.self.now in
    let two = c.args.other.now in
    let equal : IsTrue c.eq.result ↔ (one.shapes.keys ≡ two.shapes.keys) = slice_eq-Decides shape_eq one.shapes.keys two.shapes.keys c.eq.result (c.eq.ensures ∙ ap₂ (pointwise (TheImpl.eq-value).it) c.as_slice.ensures.keys c.as_slice-2.ensures.keys) in
    (λ h. ap decoded (equal.0 h), λ e. equal.1 (decoded_once one.shapes.keys two.shapes.keys one.ordered two.ordered one.distinct e))
