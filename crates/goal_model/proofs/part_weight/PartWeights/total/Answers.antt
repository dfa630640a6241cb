use Rattle.std.proofs.Common.{ℕ, Bool, List, ◌+◌, take, sym, subst, arith}
use Rattle.std.proofs.lemmas.List.{take_all}
use Rattle.goal_model.specs.declared.item.Part.{Part}
use Rattle.goal_model.specs.Items.{list_of}
use Rattle.goal_model.specs.Sizes.{IsBounded}
use Rattle.goal_model.proofs.WeighedParts.{total_more}
use Rattle.goal_model.proofs.part_weight.PartWeights.total.Goals as goal

pub parts-preserved : goal.parts-preserved
parts-preserved c sizes m are known within =
    let parts = c.args.parts.now in
    subst (λ (n : ℕ). IsBounded sizes (list_of m (take (c.parts.part-index + 1) parts)) n) (sym c.sum-total.ensures)
    (total_more sizes m c.args.self.now parts c.parts.part-index _ c.parts.total c.of.result are known c.parts-test.true c.of.ensures (c.parts.invariant sizes m are known within))

pub returns : goal.returns
returns c sizes m are known within =
    subst (λ (ps : List (Part × Bool)). IsBounded sizes (list_of m ps) c.parts.total) (take_all c.parts.part-index c.args.parts.now (omega (arith, c.parts-test.false))) (c.parts.invariant sizes m are known within)
