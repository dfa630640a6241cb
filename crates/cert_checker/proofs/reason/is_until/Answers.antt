use Rattle.std.proofs.Common.{arith}
use Rattle.formula_table.specs.Closures.{closure_of}
use Rattle.tableau_rules.specs.QueryView.{cores_in}
use Rattle.cert_checker.proofs.Shapes.{until_past}
use Rattle.cert_checker.proofs.reason.is_until.Goals as goal

pub returns-else-number-len : goal.returns-else-number-len
returns-else-number-len c = let h = c.len.ensures in let f = c.if-number-len.false in until_past (closure_of (cores_in c.args.query.now)) c.args.number (omega (arith, h, f))
