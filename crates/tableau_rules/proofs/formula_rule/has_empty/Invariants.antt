use Rattle.std.proofs.Common.{◌≡◌, drop}
use Rattle.tableau_rules.specs.Nodes.{has_empty}
use Rattle.tableau_rules.specs.Turns.{sets_of}
use Rattle.tableau_rules.proofs.formula_rule.has_empty.Given as goal

abbrev pub invariant-sets : goal.invariant-sets
invariant-sets l = has_empty (sets_of (drop l.set-index l.now)) ≡ has_empty (sets_of l.now)
