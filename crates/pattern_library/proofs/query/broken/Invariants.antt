use Rattle.std.proofs.Common.{◌≡◌, map, take}
use Rattle.temporal_logic.specs.Trees.{tree_of}
use Rattle.pattern_library.proofs.query.broken.Given as goal

abbrev pub invariant-subgoals : goal.invariant-subgoals
invariant-subgoals l = map tree_of l.formulas.items ≡ map tree_of (take l.subgoal-index l.subgoals)
