use Rattle.std.proofs.Common.{◌≡◌, ◌++◌, map, drop}
use Rattle.goal_model.specs.Models.{contents_of}
use Rattle.goal_model.specs.Items.{item_of, hindrance_items}
use Rattle.goal_model.proofs.obstruction_items.push_hindrances.Given as goal

abbrev pub invariant-obstacles : goal.invariant-obstacles
invariant-obstacles l = map item_of l.items.items ++ hindrance_items (contents_of l.contents) l.statement l.goal (drop l.obstacle-index l.obstacles) ≡ map item_of l.fn.items.items ++ hindrance_items (contents_of l.contents) l.statement l.goal l.obstacles
