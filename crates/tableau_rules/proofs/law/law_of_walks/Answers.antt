use Rattle.tableau_rules.proofs.WalkAnswers.{walk_law}
use Rattle.tableau_rules.proofs.law.law_of_walks.Goals as goal

pub returns : goal.returns
returns c = record { answer = walk_law }
