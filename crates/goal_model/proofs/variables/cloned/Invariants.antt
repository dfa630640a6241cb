use Rattle.std.proofs.Common.{◌≡◌, take}
use Rattle.goal_model.proofs.variables.cloned.Given as goal

abbrev pub invariant-names : goal.invariant-names
invariant-names l = l.cloned.items ≡ take l.name-index l.names
