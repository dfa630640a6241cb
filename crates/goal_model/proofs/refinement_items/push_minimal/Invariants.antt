use Rattle.std.proofs.Common.{◌≡◌, ◌++◌, [], map, take, drop}
use Rattle.goal_model.specs.Models.{contents_of}
use Rattle.goal_model.specs.Items.{item_of, each_of, minimal_item}
use Rattle.goal_model.proofs.refinement_items.push_minimal.Given as goal

abbrev pub invariant-subgoals : goal.invariant-subgoals
invariant-subgoals l = map item_of l.items.items ++ each_of (minimal_item (contents_of l.contents) l.statement l.goal) (take l.at l.subgoals) (drop l.at l.subgoals) ≡ map item_of l.fn.items.items ++ each_of (minimal_item (contents_of l.contents) l.statement l.goal) [] l.subgoals
