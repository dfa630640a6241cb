use Rattle.std.proofs.Common.{arith, ◌%◌, inl, inr}
use Rattle.tableau_rules.proofs.BitWrites.{set_bits, set_trimmed, set_positive}
use Rattle.tableau_rules.proofs.bits.set_bit.Goals as goal

pub returns-clause-bits : goal.returns-clause-bits
returns-clause-bits c = λ z. set_bits c.args.words.now.items c.args.number c.from.result c.index_mut.result.now z c.from.ensures (omega arith) c.index_mut.ensures.value

pub returns-clause-trimmed : goal.returns-clause-trimmed
returns-clause-trimmed c = λ h. set_trimmed c.args.words.now.items c.args.number c.from.result _ (omega arith) (set_positive c.index_mut.result.now (c.args.number % 64) (omega arith)) (elim h [ inl e ↦ inl (omega arith) | inr t ↦ inr t ])
