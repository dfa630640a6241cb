use Rattle.std.proofs.Common.{map, take}
use Rattle.goal_model.specs.Models.{trace_of}
use Rattle.goal_model.specs.ModelViews.{model_of}
use Rattle.kaos_program.specs.Truths.{AreTruthRows}
use Rattle.kaos_program.proofs.truths.truths.Given as goal

abbrev pub invariant-traces : goal.invariant-traces
invariant-traces l = AreTruthRows (model_of l.model).goals (map trace_of (take l.trace-index l.traces)) (map (λ row. row.items) l.rows.items)
