use Rattle.obstacle_regression.proofs.Deriving.{candidates_derived}
use Rattle.obstacle_regression.proofs.Keeping.{candidates_small}
use Rattle.obstacle_regression.proofs.GoalObstacles.{obstructs_through, obstructs_goal}
use Rattle.obstacle_regression.proofs.law.law_of_regression.Goals as goal

pub returns-clause-derived : goal.returns-clause-derived
returns-clause-derived c = λ d first depth core h. candidates_derived d first depth core h

pub returns-clause-small : goal.returns-clause-small
returns-clause-small c = candidates_small

pub returns-clause-through : goal.returns-clause-through
returns-clause-through c = λ m fit g depth known rules beside fits core has t periodic met h. obstructs_through m fit g depth known rules beside fits core has t periodic met h

pub returns-clause-obstructs : goal.returns-clause-obstructs
returns-clause-obstructs c = λ m fit g depth known core has t is h. obstructs_goal m fit g depth known core has t is h
