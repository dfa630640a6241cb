use Rattle.std.proofs.Common.{◌∙◌, arith}
use Rattle.source_sink.proofs.DigitValues.{one_digit}
use Rattle.source_sink.proofs.decimal.value_up_to.Goals as goal

pub digits-preserved : goal.digits-preserved
digits-preserved c = record {
  value = rw (c.min-value.ensures, c.from-digit_value.ensures, c.saturating_sub.ensures) (one_digit c.args.most c.digits.value c.digits.digit-index c.args.digits.now (omega arith) ∙ c.digits.invariant.value);
  bounded = omega arith;
}
