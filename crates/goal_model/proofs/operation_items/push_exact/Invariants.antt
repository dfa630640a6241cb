use Rattle.std.proofs.Common.{◌≡◌, ◌++◌, true, map, drop}
use Rattle.goal_model.specs.Models.{contents_of}
use Rattle.goal_model.specs.Items.{item_of, exact_items}
use Rattle.goal_model.proofs.operation_items.push_exact.Given as goal

abbrev pub invariant-requirements : goal.invariant-requirements
invariant-requirements l = map item_of l.items.items ++ exact_items (contents_of l.contents) l.statement l.goal true (drop l.requirement-index l.requirements) ≡ map item_of l.fn.items.items ++ exact_items (contents_of l.contents) l.statement l.goal true l.requirements
