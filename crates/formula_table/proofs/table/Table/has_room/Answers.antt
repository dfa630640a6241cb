use Rattle.std.proofs.Common.{◌∙◌, arith, true≢false, ◌≡◌, ◌≤◌, length}
use Rattle.formula_table.specs.Decoding.{formula_of, decoded}
use Rattle.formula_table.specs.contracts.shape.ShapePartialEq.TheImpl
use Rattle.formula_table.proofs.Decodings.{decoded_length, put_any}
use Rattle.formula_table.proofs.Members.{full_for}
use Rattle.formula_table.proofs.ShapeEquality.{shape_eq}
use Rattle.formula_table.proofs.table.Table.has_room.Goals as goal

pub returns-then-len-lt-LIMIT : goal.returns-then-len-lt-LIMIT
returns-then-len-lt-LIMIT c =
    let e = decoded_length c.args.self.now.shapes.keys in
    record { none = (λ f. absurd (true≢false f), λ h. absurd (omega (arith, e, h.0, c.len.ensures.len))) }

pub returns : goal.returns
returns c =
    let t = c.args.self.now in
    let e = decoded_length t.shapes.keys in
    let few : length t.shapes.keys ≤ 4096 = t.few in
    let is_full : length (decoded t.shapes.keys) ≡ 4096 = omega (arith, e, few, c.len.ensures.len) in
    let same = put_any (TheImpl.eq-value).it shape_eq t.shapes.keys c.args.shape.now t.ordered t.distinct c.requires in
    record { none = full_for 4096 (decoded t.shapes.keys) (formula_of (decoded t.shapes.keys) c.args.shape.now) c.contains.result is_full (c.contains.ensures ∙ same) }
