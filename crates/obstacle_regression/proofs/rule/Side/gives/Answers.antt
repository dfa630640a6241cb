use Rattle.std.proofs.Common.{sym, ap, ◌∙◌}
use Rattle.bound_unfolding.specs.CoreView.{core_tree_of}
use Rattle.obstacle_regression.specs.Replacements as replacements
use Rattle.obstacle_regression.specs.Views.{side_core}
use Rattle.obstacle_regression.proofs.Sizes.{built_is, unbuilt_is_large, large_gives}
use Rattle.obstacle_regression.proofs.rule.Side.gives.Goals as goal

pub returns-in-Some : goal.returns-in-Some
returns-in-Some c =
    let side = c.args.self.now in
    c.gives.ensures.gives ∙ ap (λ z. replacements.gives z (core_tree_of c.args.part.now)) (built_is side.core c.in-Some.core (side_core side) c.in-Some.is side.built)

pub returns-in-None : goal.returns-in-None
returns-in-None c =
    let side = c.args.self.now in
    sym (large_gives (side_core side) (core_tree_of c.args.part.now) (unbuilt_is_large side.core (side_core side) c.in-None.is side.built) c.requires)
