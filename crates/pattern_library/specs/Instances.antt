-- Instances of patterns: a formula in place of each placeholder.
use Rattle.std.specs.Prelude.{◌≡◌, ℕ, ◌<◌, ◌↔◌, List, ◌++◌, flat_map, Contains, length, map, replicate, slice_index_or, All}
use Rattle.temporal_logic.specs.Ltl.{Ltl, truth, falsity, flag, compares, among, relates, neg, conj, disj, implies, iff, entails, next, eventually, always, until, unless, release, eventually_within, always_within, until_within, unless_within, release_within}
use Rattle.temporal_logic.specs.Shapes.{variables_of}
use Rattle.temporal_logic.specs.Truth.{Trace, Truth}
use Rattle.pattern_library.specs.Patterns.{PatternForm}

-- the formula with placeholder k replaced by formula k of the list
abbrev pub instance_of : List Ltl → Ltl → Ltl
instance_of formulas truth = truth
instance_of formulas falsity = falsity
instance_of formulas (flag k) = slice_index_or formulas k truth
instance_of formulas (compares x r v) = compares x r v
instance_of formulas (among x set) = among x set
instance_of formulas (relates x r y) = relates x r y
instance_of formulas (neg a) = neg (instance_of formulas a)
instance_of formulas (conj a b) = conj (instance_of formulas a) (instance_of formulas b)
instance_of formulas (disj a b) = disj (instance_of formulas a) (instance_of formulas b)
instance_of formulas (implies a b) = implies (instance_of formulas a) (instance_of formulas b)
instance_of formulas (iff a b) = iff (instance_of formulas a) (instance_of formulas b)
instance_of formulas (entails a b) = entails (instance_of formulas a) (instance_of formulas b)
instance_of formulas (next a) = next (instance_of formulas a)
instance_of formulas (eventually a) = eventually (instance_of formulas a)
instance_of formulas (always a) = always (instance_of formulas a)
instance_of formulas (until a b) = until (instance_of formulas a) (instance_of formulas b)
instance_of formulas (unless a b) = unless (instance_of formulas a) (instance_of formulas b)
instance_of formulas (release a b) = release (instance_of formulas a) (instance_of formulas b)
instance_of formulas (eventually_within d a) = eventually_within d (instance_of formulas a)
instance_of formulas (always_within d a) = always_within d (instance_of formulas a)
instance_of formulas (until_within d a b) = until_within d (instance_of formulas a) (instance_of formulas b)
instance_of formulas (unless_within d a b) = unless_within d (instance_of formulas a) (instance_of formulas b)
instance_of formulas (release_within d a b) = release_within d (instance_of formulas a) (instance_of formulas b)

-- its atoms are constants, and placeholders below n
abbrev pub IsOverPlaceholders : ℕ → Ltl → Type 0
IsOverPlaceholders n truth = Unit {0}
IsOverPlaceholders n falsity = Unit {0}
IsOverPlaceholders n (flag k) = k < n
IsOverPlaceholders n (compares x r v) = ⊥
IsOverPlaceholders n (among x set) = ⊥
IsOverPlaceholders n (relates x r y) = ⊥
IsOverPlaceholders n (neg a) = IsOverPlaceholders n a
IsOverPlaceholders n (conj a b) = IsOverPlaceholders n a × IsOverPlaceholders n b
IsOverPlaceholders n (disj a b) = IsOverPlaceholders n a × IsOverPlaceholders n b
IsOverPlaceholders n (implies a b) = IsOverPlaceholders n a × IsOverPlaceholders n b
IsOverPlaceholders n (iff a b) = IsOverPlaceholders n a × IsOverPlaceholders n b
IsOverPlaceholders n (entails a b) = IsOverPlaceholders n a × IsOverPlaceholders n b
IsOverPlaceholders n (next a) = IsOverPlaceholders n a
IsOverPlaceholders n (eventually a) = IsOverPlaceholders n a
IsOverPlaceholders n (always a) = IsOverPlaceholders n a
IsOverPlaceholders n (until a b) = IsOverPlaceholders n a × IsOverPlaceholders n b
IsOverPlaceholders n (unless a b) = IsOverPlaceholders n a × IsOverPlaceholders n b
IsOverPlaceholders n (release a b) = IsOverPlaceholders n a × IsOverPlaceholders n b
IsOverPlaceholders n (eventually_within d a) = IsOverPlaceholders n a
IsOverPlaceholders n (always_within d a) = IsOverPlaceholders n a
IsOverPlaceholders n (until_within d a b) = IsOverPlaceholders n a × IsOverPlaceholders n b
IsOverPlaceholders n (unless_within d a b) = IsOverPlaceholders n a × IsOverPlaceholders n b
IsOverPlaceholders n (release_within d a b) = IsOverPlaceholders n a × IsOverPlaceholders n b

pub record IsPattern (p : PatternForm) : Type 0 where
  pub parent : IsOverPlaceholders p.placeholders p.parent
  pub subgoals : All (IsOverPlaceholders p.placeholders) p.subgoals

-- one binding gives the parent, and the subgoals in order
pub record Matches (p : PatternForm) (parent : Ltl) (subgoals : List Ltl) (formulas : List Ltl) : Type 0 where
  pub count : length formulas ≡ p.placeholders
  pub parent_is : parent ≡ instance_of formulas p.parent
  pub subgoals_are : subgoals ≡ map (instance_of formulas) p.subgoals

-- a placeholder has two values
abbrev pub placeholder_sizes : PatternForm → List ℕ
placeholder_sizes p = replicate p.placeholders 2

-- placeholder k has value 1 on the one trace exactly where formula k is true on the other
abbrev pub Shows : List Ltl → (shown seen : Trace) → Type 0
Shows formulas shown seen = (i k : ℕ) → k < length formulas → (shown i k ≡ 1) ↔ Truth seen (slice_index_or formulas k truth) i

-- each placeholder occurs in the parent or in a subgoal
abbrev pub AllOccur : PatternForm → Type 0
AllOccur p = (k : ℕ) → k < p.placeholders → Contains (variables_of p.parent ++ flat_map variables_of p.subgoals) k
