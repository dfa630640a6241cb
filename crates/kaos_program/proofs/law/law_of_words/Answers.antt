use Rattle.kaos_program.proofs.ExactWords.{one_command}
use Rattle.kaos_program.proofs.law.law_of_words.Goals as goal

pub returns : goal.returns
returns c = one_command
