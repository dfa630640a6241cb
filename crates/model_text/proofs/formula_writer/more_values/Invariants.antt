use Rattle.std.proofs.Common.{◌≡◌, ◌∷◌, [], take}
use Rattle.model_text.specs.RawView.{written}
use Rattle.model_text.specs.Writing.{value_token}
use Rattle.model_text.specs.Lines.{with_tokens, behind_commas}
use Rattle.model_text.proofs.formula_writer.more_values.Given as goal

abbrev pub invariant-values : goal.invariant-values
invariant-values l = l.line ≡ with_tokens l.fn.line (behind_commas (λ v. value_token (written v) ∷ []) (take l.item-index l.values))
