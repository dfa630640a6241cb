-- A formula by its outermost operator, so that formulas of one operator are told from all others by it alone.
use Rattle.temporal_logic.specs.Ltl.{Ltl, neg, conj, disj, implies, iff, entails, next, eventually, always, until, unless, release, eventually_within, always_within, until_within, unless_within, release_within}
use Rattle.temporal_logic.specs.Trees.{tree_of}
use Rattle.entity_types.specs.declared.written.Opening.{Opening}
use Rattle.entity_types.specs.declared.written.Opening.TheVariants as opening
use Rattle.entity_types.specs.declared.written.Joining.{Joining}
use Rattle.entity_types.specs.declared.written.Joining.TheVariants as joining
use Rattle.pattern_library.specs.declared.shape.Shape.{Shape}
use Rattle.pattern_library.specs.declared.shape.Shape.TheVariants.{Leaf, One, Two}

-- no operand, or an operator with one or two
pub data ShapeForm : Type 0 where
  leaf : ShapeForm
  one : (o : Opening) (a : Ltl) → ShapeForm
  two : (o : Joining) (a b : Ltl) → ShapeForm

abbrev pub shape_of : Ltl → ShapeForm
shape_of (neg a) = one opening.Not a
shape_of (next a) = one opening.Next a
shape_of (eventually a) = one opening.Eventually a
shape_of (always a) = one opening.Always a
shape_of (eventually_within d a) = one (opening.EventuallyWithin d) a
shape_of (always_within d a) = one (opening.AlwaysWithin d) a
shape_of (conj a b) = two joining.And a b
shape_of (disj a b) = two joining.Or a b
shape_of (implies a b) = two joining.Implies a b
shape_of (iff a b) = two joining.Iff a b
shape_of (entails a b) = two joining.Entails a b
shape_of (until a b) = two joining.Until a b
shape_of (unless a b) = two joining.Unless a b
shape_of (release a b) = two joining.Release a b
shape_of (until_within d a b) = two (joining.UntilWithin d) a b
shape_of (unless_within d a b) = two (joining.UnlessWithin d) a b
shape_of (release_within d a b) = two (joining.ReleaseWithin d) a b
shape_of f = leaf

-- wherever the operands lie in memory
abbrev pub shape_form : Shape → ShapeForm
shape_form Leaf = leaf
shape_form (One o a) = one o (tree_of a.now)
shape_form (Two o a b) = two o (tree_of a.now) (tree_of b.now)
