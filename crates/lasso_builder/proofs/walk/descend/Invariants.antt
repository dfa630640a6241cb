use Rattle.std.proofs.Common.{get_or}
use Rattle.lasso_builder.proofs.Legs.{IsUnderway}
use Rattle.lasso_builder.proofs.walk.descend.Given as goal

abbrev pub invariant-down : goal.invariant-down
invariant-down l = IsUnderway l.links l.alive l.levels l.initial.walk.items l.walk.items l.at

abbrev pub decreases-down : goal.decreases-down
decreases-down l = get_or l.levels l.at 0
