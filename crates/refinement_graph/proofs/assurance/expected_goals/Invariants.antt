use Rattle.std.proofs.Common.{◌≡◌, map, take}
use Rattle.goal_model.specs.Models.{GoalForm, goal_of}
use Rattle.refinement_graph.proofs.assurance.expected_goals.Given as goal

abbrev pub invariant-goals : goal.invariant-goals
invariant-goals l = l.marks.items ≡ map (λ (g : GoalForm). g.is_expected) (map goal_of (take l.goal-index l.goals))
