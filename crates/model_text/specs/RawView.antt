-- Which plain tree a written formula of the code stands for, wherever its operands lie in memory.
use Rattle.std.specs.Prelude.{map, true, false}
use Rattle.temporal_logic.specs.Trees.{relation_of}
use Rattle.model_text.specs.declared.raw_formula.RawValue.{RawValue}
use Rattle.model_text.specs.declared.raw_formula.RawValue.TheVariants as values
use Rattle.model_text.specs.declared.raw_formula.RawFormula.{RawFormula}
use Rattle.model_text.specs.declared.raw_formula.RawFormula.TheVariants as formulas
use Rattle.model_text.specs.RawTrees.{WrittenValue, a_word, a_number, a_truth, an_attribute, RawTree, truth, falsity, bare, compares, among, bare_of, compares_of, among_of, neg, next, eventually, always, eventually_within, always_within, conj, disj, implies, iff, entails, until, unless, release, until_within, unless_within, release_within, for_all, for_some}

-- the value that one of the code stands for
abbrev pub written : RawValue → WrittenValue
written (values.Word n) = a_word n
written (values.Number v) = a_number v
written (values.Of f x) = an_attribute f x
written values.True = a_truth true
written values.False = a_truth false

-- the tree that a formula of the code stands for, wherever its operands lie in memory
abbrev pub raw_tree : RawFormula → RawTree
raw_tree formulas.True = truth
raw_tree formulas.False = falsity
raw_tree (formulas.Bare n) = bare n
raw_tree (formulas.Compare n c v) = compares n (relation_of c) (written v)
raw_tree (formulas.Among n vs) = among n (map written vs.items)
raw_tree (formulas.BareOf f x) = bare_of f x
raw_tree (formulas.CompareOf f x c v) = compares_of f x (relation_of c) (written v)
raw_tree (formulas.AmongOf f x vs) = among_of f x (map written vs.items)
raw_tree (formulas.Not' p a) = neg (raw_tree a)
raw_tree (formulas.Next' p a) = next (raw_tree a)
raw_tree (formulas.Eventually' p a) = eventually (raw_tree a)
raw_tree (formulas.Always' p a) = always (raw_tree a)
raw_tree (formulas.EventuallyWithin' d p a) = eventually_within d (raw_tree a)
raw_tree (formulas.AlwaysWithin' d p a) = always_within d (raw_tree a)
raw_tree (formulas.And' p a q b) = conj (raw_tree a) (raw_tree b)
raw_tree (formulas.Or' p a q b) = disj (raw_tree a) (raw_tree b)
raw_tree (formulas.Implies' p a q b) = implies (raw_tree a) (raw_tree b)
raw_tree (formulas.Iff' p a q b) = iff (raw_tree a) (raw_tree b)
raw_tree (formulas.Entails' p a q b) = entails (raw_tree a) (raw_tree b)
raw_tree (formulas.Until' p a q b) = until (raw_tree a) (raw_tree b)
raw_tree (formulas.Unless' p a q b) = unless (raw_tree a) (raw_tree b)
raw_tree (formulas.Release' p a q b) = release (raw_tree a) (raw_tree b)
raw_tree (formulas.UntilWithin' d p a q b) = until_within d (raw_tree a) (raw_tree b)
raw_tree (formulas.UnlessWithin' d p a q b) = unless_within d (raw_tree a) (raw_tree b)
raw_tree (formulas.ReleaseWithin' d p a q b) = release_within d (raw_tree a) (raw_tree b)
raw_tree (formulas.All' x e p a) = for_all x e (raw_tree a)
raw_tree (formulas.Exists' x e p a) = for_some x e (raw_tree a)
