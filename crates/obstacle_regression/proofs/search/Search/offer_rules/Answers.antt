use Rattle.bound_unfolding.specs.CoreView.{core_tree_of}
use Rattle.obstacle_regression.proofs.Inside.{part_is_small}
use Rattle.obstacle_regression.proofs.search.Search.offer_rules.Goals as goal

pub gives-requires : goal.gives-requires
gives-requires c = part_is_small 0 (core_tree_of c.args.part.now) (core_tree_of c.args.core.now) c.requires.part c.requires.small
