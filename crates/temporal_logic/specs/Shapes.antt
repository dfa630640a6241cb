-- How deep a formula is, whether it speaks of one position alone, and which variables it names.
use Rattle.std.specs.Prelude.{ℕ, ◌<◌, ◌+◌, ◌-◌, ◌^◌, min, max, Bool, true, false, ◌&&◌, List, [], ◌∷◌, ◌++◌}
use Rattle.temporal_logic.specs.Ltl.{Ltl, truth, falsity, flag, compares, among, relates, neg, conj, disj, implies, iff, entails, next, eventually, always, until, unless, release, eventually_within, always_within, until_within, unless_within, release_within}

-- one level more, at most the greatest number of 32 bits
abbrev pub level_above : ℕ → ℕ
level_above n = min (n + 1) (2 ^ 32 - 1)

-- the number of levels, counted up to the greatest number of 32 bits
abbrev pub depth_of : Ltl → ℕ
depth_of truth = 1
depth_of falsity = 1
depth_of (flag x) = 1
depth_of (compares x r v) = 1
depth_of (among x set) = 1
depth_of (relates x r y) = 1
depth_of (neg a) = level_above (depth_of a)
depth_of (conj a b) = level_above (max (depth_of a) (depth_of b))
depth_of (disj a b) = level_above (max (depth_of a) (depth_of b))
depth_of (implies a b) = level_above (max (depth_of a) (depth_of b))
depth_of (iff a b) = level_above (max (depth_of a) (depth_of b))
depth_of (entails a b) = level_above (max (depth_of a) (depth_of b))
depth_of (next a) = level_above (depth_of a)
depth_of (eventually a) = level_above (depth_of a)
depth_of (always a) = level_above (depth_of a)
depth_of (until a b) = level_above (max (depth_of a) (depth_of b))
depth_of (unless a b) = level_above (max (depth_of a) (depth_of b))
depth_of (release a b) = level_above (max (depth_of a) (depth_of b))
depth_of (eventually_within d a) = level_above (depth_of a)
depth_of (always_within d a) = level_above (depth_of a)
depth_of (until_within d a b) = level_above (max (depth_of a) (depth_of b))
depth_of (unless_within d a b) = level_above (max (depth_of a) (depth_of b))
depth_of (release_within d a b) = level_above (max (depth_of a) (depth_of b))

-- no temporal operator stands in it, and no entailment
abbrev pub is_state_of : Ltl → Bool
is_state_of truth = true
is_state_of falsity = true
is_state_of (flag x) = true
is_state_of (compares x r v) = true
is_state_of (among x set) = true
is_state_of (relates x r y) = true
is_state_of (neg a) = is_state_of a
is_state_of (conj a b) = is_state_of a && is_state_of b
is_state_of (disj a b) = is_state_of a && is_state_of b
is_state_of (implies a b) = is_state_of a && is_state_of b
is_state_of (iff a b) = is_state_of a && is_state_of b
is_state_of _ = false

-- each variable that the formula names has a number below n
abbrev pub VariablesBelow : ℕ → Ltl → Type 0
VariablesBelow n truth = Unit {0}
VariablesBelow n falsity = Unit {0}
VariablesBelow n (flag x) = x < n
VariablesBelow n (compares x r v) = x < n
VariablesBelow n (among x set) = x < n
VariablesBelow n (relates x r y) = (x < n) × (y < n)
VariablesBelow n (neg a) = VariablesBelow n a
VariablesBelow n (conj a b) = VariablesBelow n a × VariablesBelow n b
VariablesBelow n (disj a b) = VariablesBelow n a × VariablesBelow n b
VariablesBelow n (implies a b) = VariablesBelow n a × VariablesBelow n b
VariablesBelow n (iff a b) = VariablesBelow n a × VariablesBelow n b
VariablesBelow n (entails a b) = VariablesBelow n a × VariablesBelow n b
VariablesBelow n (next a) = VariablesBelow n a
VariablesBelow n (eventually a) = VariablesBelow n a
VariablesBelow n (always a) = VariablesBelow n a
VariablesBelow n (until a b) = VariablesBelow n a × VariablesBelow n b
VariablesBelow n (unless a b) = VariablesBelow n a × VariablesBelow n b
VariablesBelow n (release a b) = VariablesBelow n a × VariablesBelow n b
VariablesBelow n (eventually_within d a) = VariablesBelow n a
VariablesBelow n (always_within d a) = VariablesBelow n a
VariablesBelow n (until_within d a b) = VariablesBelow n a × VariablesBelow n b
VariablesBelow n (unless_within d a b) = VariablesBelow n a × VariablesBelow n b
VariablesBelow n (release_within d a b) = VariablesBelow n a × VariablesBelow n b

-- the variables that the formula names, in order, once for each place
abbrev pub variables_of : Ltl → List ℕ
variables_of truth = []
variables_of falsity = []
variables_of (flag x) = x ∷ []
variables_of (compares x r v) = x ∷ []
variables_of (among x set) = x ∷ []
variables_of (relates x r y) = x ∷ y ∷ []
variables_of (neg a) = variables_of a
variables_of (conj a b) = variables_of a ++ variables_of b
variables_of (disj a b) = variables_of a ++ variables_of b
variables_of (implies a b) = variables_of a ++ variables_of b
variables_of (iff a b) = variables_of a ++ variables_of b
variables_of (entails a b) = variables_of a ++ variables_of b
variables_of (next a) = variables_of a
variables_of (eventually a) = variables_of a
variables_of (always a) = variables_of a
variables_of (until a b) = variables_of a ++ variables_of b
variables_of (unless a b) = variables_of a ++ variables_of b
variables_of (release a b) = variables_of a ++ variables_of b
variables_of (eventually_within d a) = variables_of a
variables_of (always_within d a) = variables_of a
variables_of (until_within d a b) = variables_of a ++ variables_of b
variables_of (unless_within d a b) = variables_of a ++ variables_of b
variables_of (release_within d a b) = variables_of a ++ variables_of b
