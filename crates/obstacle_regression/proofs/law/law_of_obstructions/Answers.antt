use Rattle.obstacle_regression.proofs.ObstructionLaws.{obstructs_stands, possible_stands, covered_stands}
use Rattle.obstacle_regression.proofs.law.law_of_obstructions.Goals as goal

pub returns-clause-obstructs : goal.returns-clause-obstructs
returns-clause-obstructs c = obstructs_stands

pub returns-clause-possible : goal.returns-clause-possible
returns-clause-possible c = possible_stands

pub returns-clause-covered : goal.returns-clause-covered
returns-clause-covered c = covered_stands
