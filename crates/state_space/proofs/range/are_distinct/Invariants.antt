use Rattle.std.proofs.Common.{◌≢◌, take, AllPairs}
use Rattle.state_space.proofs.range.are_distinct.Given as goal

abbrev pub invariant-names : goal.invariant-names
invariant-names l = AllPairs (λ a b. a ≢ b) (take l.index l.names)
