use Rattle.std.proofs.Common.{◌∷◌, []}
use Rattle.model_tokens.specs.declared.token.Sign.TheVariants.{Comma}
use Rattle.model_tokens.specs.Tokens.{mark}
use Rattle.model_text.specs.RawView.{written}
use Rattle.model_text.specs.Writing.{value_token}
use Rattle.model_text.proofs.LineLaws.{next_part}
use Rattle.model_text.proofs.formula_writer.more_values.Goals as goal

pub values-preserved : goal.values-preserved
values-preserved c =
    let step = next_part (λ v. mark Comma ∷ value_token (written v) ∷ []) c.args.line.now c.values.line c.args.values.now c.values.item-index c.item-item.result c.values-test.true c.item-item.is c.values.invariant in
    rw (c.in_ok-value.ensures, c.in_ok-mark.ensures) step
