use Rattle.operationalisation.proofs.PartTruth.{list_met}
use Rattle.operationalisation.proofs.law.law_of_conditions.Goals as goal

pub returns : goal.returns
returns c = record { met = list_met }
