use Rattle.std.proofs.Common.{◌*◌, ◌+◌}
use Rattle.bound_unfolding.specs.CoreForm.{nodes}
use Rattle.bound_unfolding.specs.CoreView.{core_tree_of}
use Rattle.formula_table.proofs.table.Table.+cores.Given as goal

abbrev pub decreases-put_core : goal.decreases-put_core
decreases-put_core l = 3 * nodes (core_tree_of l.core.now) + 1

abbrev pub decreases-put_operands : goal.decreases-put_operands
decreases-put_operands l = 3 * nodes (core_tree_of l.core.now)

abbrev pub decreases-put_two : goal.decreases-put_two
decreases-put_two l = 3 * (nodes (core_tree_of l.a.now) + nodes (core_tree_of l.b.now)) + 2
