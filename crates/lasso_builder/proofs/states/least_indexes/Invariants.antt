use Rattle.std.proofs.Common.{◌≡◌, map, take}
use Rattle.tableau_rules.specs.Turns.{sets_of}
use Rattle.tableau_rules.specs.Walks.{least_index}
use Rattle.lasso_builder.proofs.states.least_indexes.Given as goal

abbrev pub invariant-sets : goal.invariant-sets
invariant-sets l = l.values.items ≡ map least_index (sets_of (take l.set-index l.sets))
