use Rattle.std.proofs.Common.{ℕ, List, ◌≤◌, ◌++◌, ◌∙◌, ap, sym, map, length, min, arith}
use Rattle.std.proofs.lemmas.List.{append-nil}
use Rattle.goal_model.specs.Models.{goal_of}
use Rattle.kaos_program.proofs.TruthRows.{rows_end}
use Rattle.kaos_program.proofs.truths_text.put_rows.Goals as goal

pub returns : goal.returns
returns c =
    let past : min (length c.args.traces.now) (length c.args.rows.now) ≤ c.traces.place = omega (arith, c.min-count.ensures, c.traces-test.false) in
    sym (append-nil c.traces.out.items) ∙ ap (λ (t : List ℕ). c.traces.out.items ++ t) (sym (rows_end (map goal_of c.args.goals.now) c.args.traces.now c.args.rows.now c.traces.place past)) ∙ c.traces.invariant
