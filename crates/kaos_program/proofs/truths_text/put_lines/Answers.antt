use Rattle.std.proofs.Common.{ℕ, List, ◌≤◌, ◌++◌, ◌∙◌, ap, sym, length, min, arith}
use Rattle.std.proofs.lemmas.List.{append-nil}
use Rattle.kaos_program.proofs.TruthRows.{lines_end}
use Rattle.kaos_program.proofs.truths_text.put_lines.Goals as goal

pub returns : goal.returns
returns c =
    let past : min (length c.args.goals.now) (length c.args.row.now) ≤ c.goals.place = omega (arith, c.min-count.ensures, c.goals-test.false) in
    sym (append-nil c.goals.out.items) ∙ ap (λ (t : List ℕ). c.goals.out.items ++ t) (sym (lines_end c.args.trace.now c.args.goals.now c.args.row.now c.goals.place past)) ∙ c.goals.invariant
