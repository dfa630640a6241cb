use Rattle.std.proofs.Common.{◌≡◌, ◌++◌, true, take}
use Rattle.goal_model.specs.declared.item.Part.TheVariants.{Goal}
use Rattle.goal_model.specs.Items.{all_as}
use Rattle.goal_model.proofs.parts.push_goals.Given as goal

abbrev pub invariant-goals : goal.invariant-goals
invariant-goals l = l.parts.items ≡ l.fn.parts.items ++ all_as Goal true (take l.goal-index l.goals)
