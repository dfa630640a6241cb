use Rattle.std.proofs.Common.{◌≡◌, take}
use Rattle.std.specs.List.{flat_map}
use Rattle.model_text.specs.Statements.{settings_of}
use Rattle.model_text.specs.Writing.{state_tokens}
use Rattle.model_text.specs.Lines.{with_tokens}
use Rattle.model_text.proofs.trace_writer.states.Given as goal

abbrev pub invariant-states : goal.invariant-states
invariant-states l = l.line ≡ with_tokens l.fn.line (flat_map (λ s. state_tokens (settings_of s)) (take l.item-index l.states))
