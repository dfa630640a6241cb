use Rattle.model_text.proofs.WrittenTexts.{readable_again}
use Rattle.model_text.proofs.writer.law_of_writing.Goals as goal

pub returns : goal.returns
returns c = readable_again
