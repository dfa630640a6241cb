use Rattle.kaos_program.proofs.OneAnswer.{one_answer}
use Rattle.kaos_program.proofs.law.law_of_answers.Goals as goal

pub returns-clause-status : goal.returns-clause-status
returns-clause-status c bytes command first second report other output further a b = (one_answer bytes command first second report other output further a b).status

pub returns-clause-verdicts : goal.returns-clause-verdicts
returns-clause-verdicts c bytes command first second report other output further a b = (one_answer bytes command first second report other output further a b).verdicts
