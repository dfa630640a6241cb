use Rattle.bound_unfolding.specs.CoreView.{core_tree_of}
use Rattle.obstacle_regression.proofs.Exchanges.{same_decided}
use Rattle.obstacle_regression.proofs.replacement.is_same.Goals as goal

pub returns : goal.returns
returns c = record { same = same_decided c.is_same.result (core_tree_of c.args.a.now) (core_tree_of c.args.b.now) c.is_same.ensures.same }
