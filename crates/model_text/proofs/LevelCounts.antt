-- Each formula has a level.
use Rattle.std.proofs.Common.{◌≡◌, ◌<◌, true, arith}
use Rattle.std.specs.Prelude.{nat_lt}
use Rattle.std.proofs.lemmas.Bool.Decides.{nat_tests}
use Rattle.model_text.specs.RawTrees.{RawTree, truth, falsity, bare, compares, among, bare_of, compares_of, among_of, neg, next, eventually, always, eventually_within, always_within, conj, disj, implies, iff, entails, until, unless, release, until_within, unless_within, release_within, for_all, for_some}
use Rattle.model_text.specs.Limits.{depth_of}

some_level : (f : RawTree) → 0 < depth_of f
some_level truth = omega arith
some_level falsity = omega arith
some_level (bare x) = omega arith
some_level (compares x r v) = omega arith
some_level (among x vs) = omega arith
some_level (bare_of f x) = omega arith
some_level (compares_of f x r v) = omega arith
some_level (among_of f x vs) = omega arith
some_level (for_all x e a) = omega arith
some_level (for_some x e a) = omega arith
some_level (neg a) = omega arith
some_level (next a) = omega arith
some_level (eventually a) = omega arith
some_level (always a) = omega arith
some_level (eventually_within d a) = omega arith
some_level (always_within d a) = omega arith
some_level (conj a b) = omega arith
some_level (disj a b) = omega arith
some_level (implies a b) = omega arith
some_level (iff a b) = omega arith
some_level (entails a b) = omega arith
some_level (until a b) = omega arith
some_level (unless a b) = omega arith
some_level (release a b) = omega arith
some_level (until_within d a b) = omega arith
some_level (unless_within d a b) = omega arith
some_level (release_within d a b) = omega arith

pub over_none : (f : RawTree) → nat_lt 0 (depth_of f) ≡ true
over_none f = let some = some_level f in grind (arith, nat_tests)
