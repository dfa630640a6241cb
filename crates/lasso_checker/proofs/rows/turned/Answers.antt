use Rattle.std.proofs.Common.{◌^◌, ◌<◌, arith}
use Rattle.lasso_checker.proofs.Bitwise.{not_word}
use Rattle.lasso_checker.proofs.rows.turned.Goals as goal

pub returns : goal.returns
returns c =
    let small : c.args.word < 2 ^ 64 = omega arith in record { bits = λ r l. not_word c.args.word r small l }
