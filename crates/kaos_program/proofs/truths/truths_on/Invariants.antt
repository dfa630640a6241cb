use Rattle.std.proofs.Common.{map, take}
use Rattle.temporal_logic.specs.Lassos.{trace_of}
use Rattle.goal_model.specs.Models.{goal_of}
use Rattle.kaos_program.specs.Truths.{AreTruthsOn}
use Rattle.kaos_program.proofs.truths.truths_on.Given as goal

abbrev pub invariant-goals : goal.invariant-goals
invariant-goals l = AreTruthsOn (trace_of l.lasso) (map goal_of (take l.goal-index l.goals)) l.row.items
