use Rattle.state_space.proofs.Spellings.{keyword_of_spelling, spelling_of_keyword}
use Rattle.state_space.proofs.keyword.law_of_keywords.Goals as goal

pub returns-clause-spelled : goal.returns-clause-spelled
returns-clause-spelled c = keyword_of_spelling

pub returns-clause-only : goal.returns-clause-only
returns-clause-only c = spelling_of_keyword
