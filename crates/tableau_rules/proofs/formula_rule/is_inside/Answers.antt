use Rattle.std.proofs.Common.{arith}
use Rattle.tableau_rules.proofs.SetTests.{inside_at, inside_past}
use Rattle.tableau_rules.proofs.formula_rule.is_inside.Goals as goal

pub returns-then-place-now : goal.returns-then-place-now
returns-then-place-now c = record { inside = rw c.from-place.ensures (inside_at c.args.now.now c.args.x.0 c.args.set.0 (record { 0 = 0 }) (omega arith)) }

pub returns-else-place-now : goal.returns-else-place-now
returns-else-place-now c = record { inside = inside_past c.args.now.now c.args.x.0 c.args.set.0 (omega arith) }
