use Rattle.std.proofs.Common.{◌≡◌, take}
use Rattle.state_space.proofs.range.are_same.Given as goal

abbrev pub invariant-names : goal.invariant-names
invariant-names l = take l.index l.names ≡ take l.index l.others
