use Rattle.tableau_rules.proofs.Carrying.{carrying_law}
use Rattle.tableau_rules.proofs.law.law_of_carrying.Goals as goal

pub returns : goal.returns
returns c = record { carried = carrying_law }
