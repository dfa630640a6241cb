use Rattle.std.proofs.Common.{◌≡◌, drop}
use Rattle.tableau_rules.specs.Turns.{sets_of}
use Rattle.cert_checker.specs.Causes.{are_inside}
use Rattle.cert_checker.proofs.node_shape.are_inside.Given as goal

abbrev pub invariant-places : goal.invariant-places
invariant-places l = are_inside (sets_of (drop l.place l.full)) (sets_of (drop l.place l.sets)) ≡ are_inside (sets_of l.full) (sets_of l.sets)
