-- When a formula fits a space: it names variables of the space, and values that these have.
use Rattle.std.specs.Prelude.{◌≡◌, ℕ, ◌^◌, ◌<◌, List, length, map, Some, slice_get, slice_index}
use Rattle.state_space.specs.Ranges.{RangeForm, truth_values, size_of}
use Rattle.temporal_logic.specs.Ltl.{Ltl, truth, falsity, flag, compares, among, relates, neg, conj, disj, implies, iff, entails, next, eventually, always, until, unless, release, eventually_within, always_within, until_within, unless_within, release_within}

-- how many values a variable has
abbrev pub size_at : List RangeForm → ℕ → ℕ
size_at ranges x = slice_index (map size_of ranges) x

-- each variable has a range, each value and set is of the variable's range, and a variable alone is a truth variable
abbrev pub Fits : List RangeForm → Ltl → Type 0
Fits ranges truth = Unit {0}
Fits ranges falsity = Unit {0}
Fits ranges (flag x) = slice_get ranges x ≡ Some truth_values
Fits ranges (compares x r v) = (x < length ranges) × (v < size_at ranges x)
Fits ranges (among x set) = (x < length ranges) × (set < 2 ^ size_at ranges x)
Fits ranges (relates x r y) = (x < length ranges) × (y < length ranges)
Fits ranges (neg a) = Fits ranges a
Fits ranges (conj a b) = Fits ranges a × Fits ranges b
Fits ranges (disj a b) = Fits ranges a × Fits ranges b
Fits ranges (implies a b) = Fits ranges a × Fits ranges b
Fits ranges (iff a b) = Fits ranges a × Fits ranges b
Fits ranges (entails a b) = Fits ranges a × Fits ranges b
Fits ranges (next a) = Fits ranges a
Fits ranges (eventually a) = Fits ranges a
Fits ranges (always a) = Fits ranges a
Fits ranges (until a b) = Fits ranges a × Fits ranges b
Fits ranges (unless a b) = Fits ranges a × Fits ranges b
Fits ranges (release a b) = Fits ranges a × Fits ranges b
Fits ranges (eventually_within d a) = Fits ranges a
Fits ranges (always_within d a) = Fits ranges a
Fits ranges (until_within d a b) = Fits ranges a × Fits ranges b
Fits ranges (unless_within d a b) = Fits ranges a × Fits ranges b
Fits ranges (release_within d a b) = Fits ranges a × Fits ranges b
