use Rattle.std.proofs.Common.{arith}
use Rattle.tableau_rules.proofs.SetTests.{apart_at, apart_past}
use Rattle.tableau_rules.proofs.formula_rule.is_apart.Goals as goal

pub returns-then-place-now : goal.returns-then-place-now
returns-then-place-now c = record { apart = rw c.from-place.ensures (apart_at c.args.now.now c.args.x.0 c.args.set.0 (record { 0 = 0 }) (omega arith)) }

pub returns-else-place-now : goal.returns-else-place-now
returns-else-place-now c = record { apart = apart_past c.args.now.now c.args.x.0 c.args.set.0 (omega arith) }
