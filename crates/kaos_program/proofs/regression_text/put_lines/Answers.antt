use Rattle.std.proofs.Common.{ℕ, List, ◌+◌, ◌≤◌, ◌++◌, ◌∙◌, ap, sym, length, min, arith}
use Rattle.std.proofs.lemmas.List.{append-nil}
use Rattle.goal_model.specs.ModelViews.{model_of}
use Rattle.kaos_program.proofs.CandidateLines.{lines_end}
use Rattle.kaos_program.proofs.regression_text.put_lines.Goals as goal

pub returns : goal.returns
returns c =
    let place = c.candidates.place in
    let past : min (length c.args.candidates.now) (length c.args.standings.now) ≤ place = omega (arith, c.min-count.ensures, c.candidates-test.false) in
    sym (append-nil c.candidates.out.items)
    ∙ ap (λ (t : List ℕ). c.candidates.out.items ++ t) (sym (lines_end (model_of c.args.model.now) (place + 1) c.args.candidates.now c.args.standings.now place past))
    ∙ c.candidates.invariant
