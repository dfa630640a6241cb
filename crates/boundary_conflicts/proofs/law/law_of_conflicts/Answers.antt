use Rattle.boundary_conflicts.proofs.ConflictLaws.{diverges_stands, without_stands, feasible_stands}
use Rattle.boundary_conflicts.proofs.law.law_of_conflicts.Goals as goal

pub returns-clause-diverges : goal.returns-clause-diverges
returns-clause-diverges c = diverges_stands

pub returns-clause-without : goal.returns-clause-without
returns-clause-without c = without_stands

pub returns-clause-feasible : goal.returns-clause-feasible
returns-clause-feasible c = feasible_stands
