use Rattle.std.proofs.Common.{◌∷◌, []}
use Rattle.model_tokens.specs.declared.token.Sign.TheVariants.{Comma}
use Rattle.model_tokens.specs.Tokens.{mark, name}
use Rattle.model_text.proofs.LineLaws.{next_part}
use Rattle.model_text.proofs.part_writer.more_names.Goals as goal

pub names-preserved : goal.names-preserved
names-preserved c =
    let step = next_part (λ x. mark Comma ∷ name x ∷ []) c.args.line.now c.names.line c.args.names.now c.names.name-index c.name-item.result c.names-test.true c.name-item.is c.names.invariant in
    rw (c.in_ok-name.ensures, c.in_ok-mark.ensures) step
