use Rattle.bound_unfolding.specs.CoreView.{core_tree_of}
use Rattle.obstacle_regression.proofs.Sizes.{apart}
use Rattle.obstacle_regression.proofs.candidate.Candidate.is_same.Goals as goal

pub returns-else-self-other : goal.returns-else-self-other
returns-else-self-other c =
    let one = c.args.self.now in
    let other = c.args.other.now in
    apart one.print other.print (core_tree_of one.core) (core_tree_of other.core) one.printed other.printed c.if-self-other.false
