-- Formulas of linear temporal logic, as plain trees.
use Rattle.std.specs.Prelude.{ℕ}

-- a comparison of value indexes
pub data Relation : Type 0 where
  is_same : Relation
  is_other : Relation
  is_below : Relation
  is_at_most : Relation
  is_above : Relation
  is_at_least : Relation

-- variables are given by their numbers, values by their indexes, sets of values as the number whose bits are the members, and bounds in steps
pub data Ltl : Type 0 where
  truth : Ltl
  falsity : Ltl
  flag : (x : ℕ) → Ltl
  compares : (x : ℕ) (r : Relation) (v : ℕ) → Ltl
  among : (x set : ℕ) → Ltl
  relates : (x : ℕ) (r : Relation) (y : ℕ) → Ltl
  neg : (a : Ltl) → Ltl
  conj : (a b : Ltl) → Ltl
  disj : (a b : Ltl) → Ltl
  implies : (a b : Ltl) → Ltl
  iff : (a b : Ltl) → Ltl
  entails : (a b : Ltl) → Ltl
  next : (a : Ltl) → Ltl
  eventually : (a : Ltl) → Ltl
  always : (a : Ltl) → Ltl
  until : (a b : Ltl) → Ltl
  unless : (a b : Ltl) → Ltl
  release : (a b : Ltl) → Ltl
  eventually_within : (d : ℕ) (a : Ltl) → Ltl
  always_within : (d : ℕ) (a : Ltl) → Ltl
  until_within : (d : ℕ) (a b : Ltl) → Ltl
  unless_within : (d : ℕ) (a b : Ltl) → Ltl
  release_within : (d : ℕ) (a b : Ltl) → Ltl
