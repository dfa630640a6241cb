use Rattle.std.proofs.Common.{◌≡◌, ◌++◌, false, take}
use Rattle.goal_model.specs.declared.item.Part.TheVariants.{Obstacle}
use Rattle.goal_model.specs.Items.{all_as}
use Rattle.goal_model.proofs.parts.push_obstacles.Given as goal

abbrev pub invariant-obstacles : goal.invariant-obstacles
invariant-obstacles l = l.parts.items ≡ l.fn.parts.items ++ all_as Obstacle false (take l.obstacle-index l.obstacles)
