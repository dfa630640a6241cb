use Rattle.goal_model.specs.Models.{link_of}
use Rattle.goal_model.specs.Reachability.{has_subgoal}
use Rattle.goal_model.proofs.LastFirst.{FailFrom}
use Rattle.goal_model.proofs.reachability.is_subgoal.Given as goal

abbrev pub invariant-links : goal.invariant-links
invariant-links l = FailFrom link_of (has_subgoal l.goal) l.links l.place
