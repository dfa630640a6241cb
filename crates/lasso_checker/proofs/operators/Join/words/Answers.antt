use Rattle.std.proofs.Common.{◌^◌, ◌<◌, arith}
use Rattle.lasso_checker.proofs.Bitwise.{implies_word, iff_word}
use Rattle.lasso_checker.proofs.operators.Join.words.Goals as goal
use Rattle.state_space.proofs.BitSets.{meet_has, join_has}

pub returns-in-And : goal.returns-in-And
returns-in-And c = record { bits = λ r l. rw c.in-And.is (meet_has c.args.one c.args.other r) }

pub returns-in-Or : goal.returns-in-Or
returns-in-Or c = record { bits = λ r l. rw c.in-Or.is (join_has c.args.one c.args.other r) }

pub returns-in-Implies : goal.returns-in-Implies
returns-in-Implies c =
    let small : c.args.one < 2 ^ 64 = omega arith in
    record { bits = λ r l. rw c.in-Implies.is (implies_word c.args.one c.args.other r small l) }

pub returns-in-Iff : goal.returns-in-Iff
returns-in-Iff c =
    let small : c.args.one < 2 ^ 64 = omega arith in
    record { bits = λ r l. rw c.in-Iff.is (iff_word c.args.one c.args.other r small l) }
