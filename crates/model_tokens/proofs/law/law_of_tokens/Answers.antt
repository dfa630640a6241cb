use Rattle.model_tokens.proofs.CutLaw.{tokens_of-cut, tokens_of-only}
use Rattle.model_tokens.proofs.law.law_of_tokens.Goals as goal

pub returns : goal.returns
returns c = record { cut = tokens_of-cut; only = tokens_of-only }
