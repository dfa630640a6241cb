use Rattle.std.proofs.Common.{arith}
use Rattle.tableau_rules.proofs.BitWrites.{clear_bits, clear_past}
use Rattle.tableau_rules.proofs.bits.clear_bit.Goals as goal

pub returns-then-at-len-clause-bits : goal.returns-then-at-len-clause-bits
returns-then-at-len-clause-bits c = λ z. clear_bits c.args.words.now.items c.args.number c.from-at.result c.index_mut.result.now z c.from-at.ensures (omega arith) c.index_mut.ensures.value

pub returns-else-at-len-clause-bits : goal.returns-else-at-len-clause-bits
returns-else-at-len-clause-bits c = λ z. clear_past c.args.words.now.items c.args.number z (omega arith)
