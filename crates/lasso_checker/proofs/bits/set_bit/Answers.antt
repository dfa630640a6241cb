use Rattle.std.proofs.Common.{sym, ◌∙◌}
use Rattle.lasso_checker.proofs.OneBit.{bit_of-set_same, bit_of-set_other}
use Rattle.lasso_checker.proofs.bits.set_bit.Goals as goal

pub returns-clause-here : goal.returns-clause-here
returns-clause-here c =
    let e = bit_of-set_same c.args.table.now c.args.base c.args.place c.with_bit.result c.requires in
    (λ t. e ∙ c.with_bit.ensures.here.0 t, λ h. c.with_bit.ensures.here.1 (sym e ∙ h))

pub returns-clause-rest : goal.returns-clause-rest
returns-clause-rest c r ne = bit_of-set_other c.args.table.now c.args.base c.args.place c.with_bit.result r c.requires ne c.with_bit.ensures.rest
