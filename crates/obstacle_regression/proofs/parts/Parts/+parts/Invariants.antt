use Rattle.std.proofs.Common.{◌*◌, ◌+◌}
use Rattle.bound_unfolding.specs.CoreForm.{nodes}
use Rattle.bound_unfolding.specs.CoreView.{core_tree_of}
use Rattle.obstacle_regression.proofs.parts.Parts.+parts.Given as goal

abbrev pub decreases-take : goal.decreases-take
decreases-take l = 3 * nodes (core_tree_of l.part.now) + 1

abbrev pub decreases-take_operands : goal.decreases-take_operands
decreases-take_operands l = 3 * nodes (core_tree_of l.part.now)

abbrev pub decreases-take_two : goal.decreases-take_two
decreases-take_two l = 3 * (nodes (core_tree_of l.a.now) + nodes (core_tree_of l.b.now)) + 2
