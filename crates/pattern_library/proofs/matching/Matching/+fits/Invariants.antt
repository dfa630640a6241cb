use Rattle.std.proofs.Common.{◌*◌, ◌+◌}
use Rattle.temporal_logic.specs.Trees.{tree_of}
use Rattle.pattern_library.proofs.Operators.{operators}
use Rattle.pattern_library.proofs.matching.Matching.+fits.Given as goal

abbrev pub decreases-fits : goal.decreases-fits
decreases-fits l = 2 * operators (tree_of l.pattern.now)

abbrev pub decreases-fit_two : goal.decreases-fit_two
decreases-fit_two l = 2 * (operators (tree_of l.a.now) + operators (tree_of l.b.now)) + 1
