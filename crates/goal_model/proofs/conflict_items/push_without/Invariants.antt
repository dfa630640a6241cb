use Rattle.std.proofs.Common.{◌≡◌, ◌++◌, [], map, take, drop}
use Rattle.goal_model.specs.Models.{contents_of}
use Rattle.goal_model.specs.Items.{item_of, each_of, without_item}
use Rattle.goal_model.proofs.conflict_items.push_without.Given as goal

abbrev pub invariant-goals : goal.invariant-goals
invariant-goals l = map item_of l.items.items ++ each_of (without_item (contents_of l.contents) l.place l.statement l.name) (take l.at l.goals) (drop l.at l.goals) ≡ map item_of l.fn.items.items ++ each_of (without_item (contents_of l.contents) l.place l.statement l.name) [] l.goals
