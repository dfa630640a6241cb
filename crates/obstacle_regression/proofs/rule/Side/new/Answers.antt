use Rattle.std.proofs.Common.{true, sym, ◌∙◌}
use Rattle.state_space.specs.Spaces.{sizes}
use Rattle.temporal_logic.specs.Trees.{tree_of}
use Rattle.bound_unfolding.specs.CoreTree.{core_tree}
use Rattle.obstacle_regression.proofs.Sizes.{some_built, none_built}
use Rattle.obstacle_regression.proofs.rule.Side.new.Goals as goal
use Rattle.obstacle_regression.proofs.rule.Side.new.Goals.{in-true+in_ok-core_of-in-true, in-false}

pub invariant_of-result : goal.invariant_of-result
invariant_of-result c =
    let tree = core_tree (sizes c.args.space.now) true (tree_of c.args.formula.now) in
    record {
      extent_is = c.extents_of.ensures.positive;
      built = elim c.if-is_small.branch [ in-true+in_ok-core_of-in-true w ↦ some_built c.if-is_small.core w.in_ok-core_of-in-true.field-0 tree w.core-is w.in_ok-core_of-in-true.ensures.tree | in-false w ↦ none_built c.if-is_small.core tree w.core-is (sym (c.is_small.ensures.small tree c.extents_of.ensures.positive) ∙ w.in-false.is) ];
    }
