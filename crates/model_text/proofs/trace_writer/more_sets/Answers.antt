use Rattle.std.proofs.Common.{◌∷◌}
use Rattle.model_tokens.specs.declared.token.Sign.TheVariants.{Comma}
use Rattle.model_tokens.specs.Tokens.{mark}
use Rattle.model_text.specs.StatementReading.{setting_of}
use Rattle.model_text.specs.Writing.{set_tokens}
use Rattle.model_text.proofs.LineLaws.{next_part}
use Rattle.model_text.proofs.trace_writer.more_sets.Goals as goal

pub sets-preserved : goal.sets-preserved
sets-preserved c =
    let step = next_part (λ s. mark Comma ∷ set_tokens (setting_of s)) c.args.line.now c.sets.line c.args.sets.now c.sets.item-index c.item-item.result c.sets-test.true c.item-item.is c.sets.invariant in
    rw (c.in_ok-set.ensures, c.in_ok-mark.ensures) step
