use Rattle.std.proofs.Common.{◌≡◌, ◌+◌, ◌++◌, map, drop}
use Rattle.bound_unfolding.specs.CoreView.{core_tree_of}
use Rattle.goal_model.specs.ModelViews.{model_of}
use Rattle.kaos_program.specs.Regressing.{candidate_lines}
use Rattle.kaos_program.proofs.regression_text.put_lines.Given as goal

abbrev pub invariant-candidates : goal.invariant-candidates
invariant-candidates l =
    l.out.items ++ candidate_lines (model_of l.model) (l.place + 1) (map core_tree_of (drop l.place l.candidates)) (drop l.place l.standings)
    ≡ l.fn.out.items ++ candidate_lines (model_of l.model) 1 (map core_tree_of l.candidates) l.standings
