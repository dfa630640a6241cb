use Rattle.std.proofs.Common.{◌≡◌, ◌++◌, map, drop}
use Rattle.goal_model.specs.Models.{goal_of, trace_of}
use Rattle.kaos_program.specs.TruthTexts.{row_lines}
use Rattle.kaos_program.proofs.truths_text.put_rows.Given as goal

abbrev pub invariant-traces : goal.invariant-traces
invariant-traces l =
    l.out.items ++ row_lines (map goal_of l.goals) (map trace_of (drop l.place l.traces)) (map (λ row. row.items) (drop l.place l.rows))
    ≡ l.fn.out.items ++ row_lines (map goal_of l.goals) (map trace_of l.traces) (map (λ row. row.items) l.rows)
