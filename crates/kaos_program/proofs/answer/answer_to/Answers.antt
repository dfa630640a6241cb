use Rattle.kaos_program.specs.Options.{command_form}
use Rattle.kaos_program.proofs.Answering.{refused_line}
use Rattle.kaos_program.proofs.answer.answer_to.Goals as goal

pub returns-in-Refused-clause-answered : goal.returns-in-Refused-clause-answered
returns-in-Refused-clause-answered g c =
    let read = rw c.in-Refused.is at c.in_ok-model.ensures in
    let answer = c.refused.ensures in
    refused_line (command_form c.args.command) c.args.bytes.now c.in-Refused.line.items _ _ _ read.read answer.0 answer.1 answer.2
