-- How tightly a formula binds, as its place may ask for it, and the text of an operator with its bound.
use Rattle.std.specs.Prelude.{ℕ, List, [], Option, None, Some}
use Rattle.temporal_logic.specs.Ltl.{Ltl, truth, falsity, flag, compares, among, relates, neg, conj, disj, implies, iff, entails, next, eventually, always, until, unless, release, eventually_within, always_within, until_within, unless_within, release_within}
use Rattle.temporal_logic.specs.Written.{within}

-- from 0, of `entails`, to 7, of what has no operand: the scale by which the written form sets its parentheses
abbrev pub tightness : Ltl → ℕ
tightness truth = 7
tightness falsity = 7
tightness (flag x) = 7
tightness (compares x r v) = 7
tightness (among x set) = 7
tightness (relates x r y) = 7
tightness (neg a) = 6
tightness (next a) = 6
tightness (eventually a) = 6
tightness (always a) = 6
tightness (eventually_within d a) = 6
tightness (always_within d a) = 6
tightness (until a b) = 5
tightness (unless a b) = 5
tightness (release a b) = 5
tightness (until_within d a b) = 5
tightness (unless_within d a b) = 5
tightness (release_within d a b) = 5
tightness (conj a b) = 4
tightness (disj a b) = 3
tightness (implies a b) = 2
tightness (iff a b) = 1
tightness (entails a b) = 0

-- ` within d`, where there is a bound
abbrev pub bound_text : Option ℕ → List ℕ
bound_text None = []
bound_text (Some d) = within d
