use Rattle.goal_model.specs.Models.{link_of}
use Rattle.goal_model.specs.Reachability.{refines_any}
use Rattle.goal_model.proofs.LastFirst.{FailFrom}
use Rattle.goal_model.proofs.reachability.are_refined.Given as goal

abbrev pub invariant-links : goal.invariant-links
invariant-links l = FailFrom link_of (refines_any l.goals) l.links l.place
