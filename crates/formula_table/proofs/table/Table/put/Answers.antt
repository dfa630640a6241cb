use Rattle.std.proofs.Common.{◌∙◌, sym, subst, true≢false, ◌≤◌, length, List}
use Rattle.formula_table.specs.declared.shape.Shape.{Shape}
use Rattle.formula_table.specs.contracts.shape.ShapePartialEq.TheImpl
use Rattle.formula_table.specs.Decoding.{formula_of, decoded, OperandsFirst}
use Rattle.formula_table.specs.Distinct.{IsDistinct}
use Rattle.formula_table.proofs.Decodings.{put_first}
use Rattle.formula_table.proofs.Puts.{IsPut, after_insertion, not_full, shape_put, shapes_few, shapes_distinct}
use Rattle.formula_table.proofs.ShapeEquality.{shape_eq}
use Rattle.formula_table.proofs.table.Table.put.Goals as goal

pub invariant_of-self-clause-few : goal.invariant_of-self-clause-few
invariant_of-self-clause-few c =
    let t = c.args.self.now in
    after_insertion c.insert_full.result c.insert_full.ensures.keys c.insert_full.ensures.err
    (λ k. shapes_few (TheImpl.eq-value).it shape_eq t.shapes.keys c.args.shape t.ordered t.distinct c.requires 4096 t.few (λ h. true≢false (sym c.if-not-has_room.false ∙ c.has_room.ensures.none.1 h)) c.insert_full.new.self.keys k)
    (λ k. subst (λ (ss : List Shape). length ss ≤ 4096) (sym k) t.few)

pub invariant_of-self-clause-ordered : goal.invariant_of-self-clause-ordered
invariant_of-self-clause-ordered c =
    let t = c.args.self.now in
    after_insertion c.insert_full.result c.insert_full.ensures.keys c.insert_full.ensures.err
    (λ k. subst (OperandsFirst 0) (sym k) (put_first _ t.shapes.keys c.args.shape t.ordered c.requires))
    (λ k. subst (OperandsFirst 0) (sym k) t.ordered)

pub invariant_of-self-clause-distinct : goal.invariant_of-self-clause-distinct
invariant_of-self-clause-distinct c =
    let t = c.args.self.now in
    after_insertion c.insert_full.result c.insert_full.ensures.keys c.insert_full.ensures.err
    (λ k. shapes_distinct (TheImpl.eq-value).it shape_eq t.shapes.keys c.args.shape t.ordered t.distinct c.requires c.insert_full.new.self.keys k)
    (λ k. subst (λ (ss : List Shape). IsDistinct (decoded ss)) (sym k) t.distinct)

pub returns-in_err-place-clause-full : goal.returns-in_err-place-clause-full
returns-in_err-place-clause-full c = (λ e. absurd (not_full c.from_residual.result c.from_residual.ensures.1 e), λ h. absurd (true≢false (sym c.if-not-has_room.false ∙ c.has_room.ensures.none.1 h)))

pub returns-clause-full : goal.returns-clause-full
returns-clause-full c = (λ e. absurd (cc), λ h. absurd (true≢false (sym c.if-not-has_room.false ∙ c.has_room.ensures.none.1 h)))

-- what the insertion did to the closure
inserted : (c : goal.In_ok-place) → IsPut (decoded c.args.self.now.shapes.keys) (formula_of (decoded c.args.self.now.shapes.keys) c.args.shape) (decoded c.insert_full.new.self.keys) c.in_ok-place.place
inserted c =
    let t = c.args.self.now in
    shape_put (TheImpl.eq-value).it shape_eq t.shapes.keys c.args.shape t.ordered t.distinct c.requires c.insert_full.new.self.keys c.in_ok-place.place c.in_ok-place.ensures.keys c.in_ok-place.ensures.index

pub returns-clause-put : goal.returns-clause-put
returns-clause-put c = (inserted c).put

pub returns-clause-id : goal.returns-clause-id
returns-clause-id c = (inserted c).id

pub returns-clause-tree : goal.returns-clause-tree
returns-clause-tree c = (inserted c).tree

pub returns-clause-inside : goal.returns-clause-inside
returns-clause-inside c = (inserted c).inside

pub returns-clause-kept : goal.returns-clause-kept
returns-clause-kept c = (inserted c).kept
