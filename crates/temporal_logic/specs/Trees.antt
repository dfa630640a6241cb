-- The tree of a formula, wherever its parts lie in memory.
use Rattle.temporal_logic.specs.declared.formula.Cmp.{Cmp}
use Rattle.temporal_logic.specs.declared.formula.Cmp.TheVariants.{Eq, Ne, Lt, Le, Gt, Ge}
use Rattle.temporal_logic.specs.declared.formula.Formula.{Formula}
use Rattle.temporal_logic.specs.declared.formula.Formula.TheVariants.{True, False, Flag, Is, Among, Same, Not', And', Or', Implies', Iff', Entails', Next', Eventually', Always', Until', Unless', Release', EventuallyWithin', AlwaysWithin', UntilWithin', UnlessWithin', ReleaseWithin'}
use Rattle.temporal_logic.specs.Ltl.{Relation, is_same, is_other, is_below, is_at_most, is_above, is_at_least, Ltl, truth, falsity, flag, compares, among, relates, neg, conj, disj, implies, iff, entails, next, eventually, always, until, unless, release, eventually_within, always_within, until_within, unless_within, release_within}

-- the relation that a comparison names
abbrev pub relation_of : Cmp → Relation
relation_of Eq = is_same
relation_of Ne = is_other
relation_of Lt = is_below
relation_of Le = is_at_most
relation_of Gt = is_above
relation_of Ge = is_at_least

-- the tree that a formula stands for
abbrev pub tree_of : Formula → Ltl
tree_of True = truth
tree_of False = falsity
tree_of (Flag x) = flag x.0
tree_of (Is x c v) = compares x.0 (relation_of c) v
tree_of (Among x set) = among x.0 set.0
tree_of (Same x c y) = relates x.0 (relation_of c) y.0
tree_of (Not' p a) = neg (tree_of a)
tree_of (And' p a q b) = conj (tree_of a) (tree_of b)
tree_of (Or' p a q b) = disj (tree_of a) (tree_of b)
tree_of (Implies' p a q b) = implies (tree_of a) (tree_of b)
tree_of (Iff' p a q b) = iff (tree_of a) (tree_of b)
tree_of (Entails' p a q b) = entails (tree_of a) (tree_of b)
tree_of (Next' p a) = next (tree_of a)
tree_of (Eventually' p a) = eventually (tree_of a)
tree_of (Always' p a) = always (tree_of a)
tree_of (Until' p a q b) = until (tree_of a) (tree_of b)
tree_of (Unless' p a q b) = unless (tree_of a) (tree_of b)
tree_of (Release' p a q b) = release (tree_of a) (tree_of b)
tree_of (EventuallyWithin' d p a) = eventually_within d (tree_of a)
tree_of (AlwaysWithin' d p a) = always_within d (tree_of a)
tree_of (UntilWithin' d p a q b) = until_within d (tree_of a) (tree_of b)
tree_of (UnlessWithin' d p a q b) = unless_within d (tree_of a) (tree_of b)
tree_of (ReleaseWithin' d p a q b) = release_within d (tree_of a) (tree_of b)
