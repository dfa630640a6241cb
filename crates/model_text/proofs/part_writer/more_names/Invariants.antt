use Rattle.std.proofs.Common.{◌≡◌, ◌∷◌, [], take}
use Rattle.model_tokens.specs.Tokens.{name}
use Rattle.model_text.specs.Lines.{with_tokens, behind_commas}
use Rattle.model_text.proofs.part_writer.more_names.Given as goal

abbrev pub invariant-names : goal.invariant-names
invariant-names l = l.line ≡ with_tokens l.fn.line (behind_commas (λ x. name x ∷ []) (take l.name-index l.names))
