use Rattle.std.proofs.Common.{◌∙◌, arith}
use Rattle.lasso_checker.proofs.Stepping.{bit_at_half}
use Rattle.lasso_checker.proofs.rows.moved.Goals as goal

pub returns-clause-rest : goal.returns-clause-rest
returns-clause-rest c r l = c.with_bit.ensures.rest r (omega arith) (omega arith) ∙ bit_at_half c.args.word r
