-- Formulas as they are written, as plain trees.
use Rattle.std.specs.Prelude.{ℕ, ℤ, List, Bool}
use Rattle.temporal_logic.specs.Ltl.{Relation}

-- a value as it is written; an attribute with a name in brackets stands only behind a comparison
pub data WrittenValue : Type 0 where
  a_word : (bytes : List ℕ) → WrittenValue
  a_number : (value : ℤ) → WrittenValue
  a_truth : (value : Bool) → WrittenValue
  an_attribute : (f x : List ℕ) → WrittenValue

-- a formula whose names are not looked up: names as their bytes, bounds in steps, and no trace of parentheses
pub data RawTree : Type 0 where
  truth : RawTree
  falsity : RawTree
  bare : (x : List ℕ) → RawTree
  compares : (x : List ℕ) (r : Relation) (v : WrittenValue) → RawTree
  among : (x : List ℕ) (vs : List WrittenValue) → RawTree
  bare_of : (f x : List ℕ) → RawTree
  compares_of : (f x : List ℕ) (r : Relation) (v : WrittenValue) → RawTree
  among_of : (f x : List ℕ) (vs : List WrittenValue) → RawTree
  neg : (a : RawTree) → RawTree
  next : (a : RawTree) → RawTree
  eventually : (a : RawTree) → RawTree
  always : (a : RawTree) → RawTree
  eventually_within : (d : ℕ) (a : RawTree) → RawTree
  always_within : (d : ℕ) (a : RawTree) → RawTree
  conj : (a b : RawTree) → RawTree
  disj : (a b : RawTree) → RawTree
  implies : (a b : RawTree) → RawTree
  iff : (a b : RawTree) → RawTree
  entails : (a b : RawTree) → RawTree
  until : (a b : RawTree) → RawTree
  unless : (a b : RawTree) → RawTree
  release : (a b : RawTree) → RawTree
  until_within : (d : ℕ) (a b : RawTree) → RawTree
  unless_within : (d : ℕ) (a b : RawTree) → RawTree
  release_within : (d : ℕ) (a b : RawTree) → RawTree
  for_all : (x entity : List ℕ) (a : RawTree) → RawTree
  for_some : (x entity : List ℕ) (a : RawTree) → RawTree
