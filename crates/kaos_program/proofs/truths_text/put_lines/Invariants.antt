use Rattle.std.proofs.Common.{◌≡◌, ◌++◌, map, drop}
use Rattle.goal_model.specs.Models.{goal_of}
use Rattle.kaos_program.specs.TruthTexts.{lines_on}
use Rattle.kaos_program.proofs.truths_text.put_lines.Given as goal

abbrev pub invariant-goals : goal.invariant-goals
invariant-goals l = l.out.items ++ lines_on l.trace (map goal_of (drop l.place l.goals)) (drop l.place l.row) ≡ l.fn.out.items ++ lines_on l.trace (map goal_of l.goals) l.row
