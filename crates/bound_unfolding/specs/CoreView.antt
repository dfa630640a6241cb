-- The tree of a core, wherever its parts lie in memory.
use Rattle.bound_unfolding.specs.declared.core_form.Core.{Core}
use Rattle.bound_unfolding.specs.declared.core_form.Core.TheVariants.{True, False, Lit, And', Or', Next', Until', Release'}
use Rattle.bound_unfolding.specs.CoreForm.{CoreForm, core_true, core_false, lit, both, either, after, core_until, core_release}

-- the tree that a core stands for
abbrev pub core_tree_of : Core → CoreForm
core_tree_of True = core_true
core_tree_of False = core_false
core_tree_of (Lit x set) = lit x.0 set.0
core_tree_of (And' p a q b) = both (core_tree_of a) (core_tree_of b)
core_tree_of (Or' p a q b) = either (core_tree_of a) (core_tree_of b)
core_tree_of (Next' p a) = after (core_tree_of a)
core_tree_of (Until' p a q b) = core_until (core_tree_of a) (core_tree_of b)
core_tree_of (Release' p a q b) = core_release (core_tree_of a) (core_tree_of b)
