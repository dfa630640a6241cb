use Rattle.model_text.specs.Statements.{settings_of}
use Rattle.model_text.specs.Writing.{state_tokens}
use Rattle.model_text.proofs.LineLaws.{next_part}
use Rattle.model_text.proofs.trace_writer.states.Goals as goal

pub states-preserved : goal.states-preserved
states-preserved c =
    let step = next_part (λ s. state_tokens (settings_of s)) c.args.line.now c.states.line c.args.states.now c.states.item-index c.item-item.result c.states-test.true c.item-item.is c.states.invariant in
    rw c.in_ok-state.ensures step
