use Rattle.model_text.proofs.Texts.{spelled_once}
use Rattle.model_text.proofs.text.law_of_spelling.Goals as goal

pub returns : goal.returns
returns c = spelled_once
