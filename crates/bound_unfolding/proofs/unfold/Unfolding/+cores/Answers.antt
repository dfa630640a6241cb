use Rattle.std.proofs.Common.{◌≡◌, sym, subst}
use Rattle.state_space.specs.Spaces.{sizes}
use Rattle.temporal_logic.specs.declared.formula.Formula.{Formula}
use Rattle.temporal_logic.specs.Trees.{tree_of}
use Rattle.bound_unfolding.specs.CoreTree.{core_tree}
use Rattle.bound_unfolding.specs.CoreView.{core_tree_of}
use Rattle.bound_unfolding.proofs.unfold.Unfolding.+cores.Goals as goal

pub core-returns-in-Is : goal.core-returns-in-Is
core-returns-in-Is t c =
    subst (λ (f : Formula). core_tree_of c.comparison.result ≡ core_tree (sizes c.args.self.now.space.now) c.args.positive (tree_of f)) (sym c.in-Is.is) c.comparison.ensures
