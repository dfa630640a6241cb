use Rattle.std.proofs.Common.{◌≡◌, take}
use Rattle.model_text.specs.StatementReading.{setting_of}
use Rattle.model_text.specs.Writing.{set_tokens}
use Rattle.model_text.specs.Lines.{with_tokens, behind_commas}
use Rattle.model_text.proofs.trace_writer.more_sets.Given as goal

abbrev pub invariant-sets : goal.invariant-sets
invariant-sets l = l.line ≡ with_tokens l.fn.line (behind_commas (λ s. set_tokens (setting_of s)) (take l.item-index l.sets))
