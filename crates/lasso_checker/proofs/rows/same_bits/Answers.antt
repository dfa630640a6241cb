use Rattle.std.proofs.lemmas.Nat.Bits.{bit_at_ones}
use Rattle.lasso_checker.proofs.rows.same_bits.Goals as goal

pub returns-then-value : goal.returns-then-value
returns-then-value c = record { bits = λ r l. (λ h. c.if-value.true, λ h. bit_at_ones 64 r l) }
