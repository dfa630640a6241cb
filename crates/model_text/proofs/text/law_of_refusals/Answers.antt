use Rattle.model_text.proofs.Texts.{never_both}
use Rattle.model_text.proofs.text.law_of_refusals.Goals as goal

pub returns : goal.returns
returns c = never_both
