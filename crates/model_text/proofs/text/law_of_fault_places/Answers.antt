use Rattle.model_text.proofs.TextJudged.{one_place, begins_with_tokens}
use Rattle.model_text.proofs.text.law_of_fault_places.Goals as goal

pub returns-clause-one : goal.returns-clause-one
returns-clause-one c = one_place

pub returns-clause-tokens : goal.returns-clause-tokens
returns-clause-tokens c = begins_with_tokens
