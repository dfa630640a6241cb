use Rattle.operationalisation.proofs.OperationLaws.{complete_stands, consistent_stands, exact_stands}
use Rattle.operationalisation.proofs.law.law_of_operationalisations.Goals as goal

pub returns-clause-complete : goal.returns-clause-complete
returns-clause-complete c = complete_stands

pub returns-clause-consistent : goal.returns-clause-consistent
returns-clause-consistent c = consistent_stands

pub returns-clause-exact : goal.returns-clause-exact
returns-clause-exact c = exact_stands
