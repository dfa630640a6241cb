use Rattle.std.proofs.Common.{sym, ◌∙◌}
use Rattle.bound_unfolding.specs.CoreView.{core_tree_of}
use Rattle.obstacle_regression.proofs.Exchanges.{replaced_there}
use Rattle.obstacle_regression.proofs.replacement.+replaced.Goals as goal

pub replaced-returns-then-is_same : goal.replaced-returns-then-is_same
replaced-returns-then-is_same t c =
    let e = replaced_there (core_tree_of c.args.old.now) (core_tree_of c.args.new.now) (core_tree_of c.args.core.now) (sym c.is_same.ensures.same ∙ c.if-is_same.true) in
    record { tree = rw e c.clone.ensures.same }
