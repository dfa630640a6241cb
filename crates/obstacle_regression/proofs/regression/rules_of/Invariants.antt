use Rattle.std.proofs.Common.{◌≡◌, ◌++◌, map, drop}
use Rattle.temporal_logic.specs.Trees.{tree_of}
use Rattle.obstacle_regression.proofs.Rules.{rules_in}
use Rattle.obstacle_regression.proofs.regression.rules_of.Given as goal

abbrev pub invariant-domains : goal.invariant-domains
invariant-domains l = map tree_of l.rules.items ++ rules_in (drop l.property-index l.property-items) ≡ rules_in l.property-items
