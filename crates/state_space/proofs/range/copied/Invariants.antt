use Rattle.std.proofs.Common.{◌≡◌, take}
use Rattle.state_space.proofs.range.copied.Given as goal

abbrev pub invariant-names : goal.invariant-names
invariant-names l = l.copies.items ≡ take l.name-index l.names
