use Rattle.std.specs.Int.Bits.{and_lt}
use Rattle.std.proofs.Common.{arith, ap, bit_and, ◌^◌, ◌*◌, ◌%◌, ◌-◌}
use Rattle.std.proofs.lemmas.Nat.Bits.{ones_shl}
use Rattle.tableau_rules.proofs.OneWord.{least_bit_some, least_bit_none}
use Rattle.tableau_rules.proofs.bits.least_bit.Goals as goal

pub returns-then-rest-eq0-clause-none : goal.returns-then-rest-eq0-clause-none
returns-then-rest-eq0-clause-none c =
    let w = c.args.word in
    let mask = (2 ^ 64 - 1) * 2 ^ c.args.from % 2 ^ 64 in
    let e = ap (bit_and w) (ones_shl 64 c.args.from (omega arith)) in
    least_bit_none w c.args.from (bit_and w mask) (omega arith) e c.if-rest-eq0.true

pub returns-else-rest-eq0-clause-some : goal.returns-else-rest-eq0-clause-some
returns-else-rest-eq0-clause-some c =
    let w = c.args.word in
    let mask = (2 ^ 64 - 1) * 2 ^ c.args.from % 2 ^ 64 in
    let e = ap (bit_and w) (ones_shl 64 c.args.from (omega arith)) in
    least_bit_some w c.args.from (bit_and w mask) (omega arith) e (and_lt 64 w mask (omega arith) (omega arith)) (omega arith)
