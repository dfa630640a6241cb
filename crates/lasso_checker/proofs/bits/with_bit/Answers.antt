use Rattle.std.proofs.Common.{sym, ◌∙◌}
use Rattle.std.specs.Int.{w64}
use Rattle.std.proofs.lemmas.Bool.{false≢true}
use Rattle.std.proofs.lemmas.Nat.Bits.{bit_at_set_same, bit_at_set_other, bit_at_clear_same, bit_at_clear_other}
use Rattle.lasso_checker.proofs.bits.with_bit.Goals as goal
use Rattle.state_space.proofs.BitSets.{not_one_from_zero}

pub returns-then-value-clause-here : goal.returns-then-value-clause-here
returns-then-value-clause-here c = (λ _. bit_at_set_same w64 c.args.word c.args.at c.requires, λ _. c.if-value.true)

pub returns-then-value-clause-rest : goal.returns-then-value-clause-rest
returns-then-value-clause-rest c r l ne = bit_at_set_other w64 c.args.word c.args.at c.requires r ne

pub returns-else-value-clause-here : goal.returns-else-value-clause-here
returns-else-value-clause-here c =
    (λ t. absurd (false≢true (sym c.if-value.false ∙ t)), λ h. absurd (not_one_from_zero _ (bit_at_clear_same w64 c.args.word c.args.at c.requires) h))

pub returns-else-value-clause-rest : goal.returns-else-value-clause-rest
returns-else-value-clause-rest c r l ne = bit_at_clear_other w64 c.args.word c.args.at c.requires r l ne
