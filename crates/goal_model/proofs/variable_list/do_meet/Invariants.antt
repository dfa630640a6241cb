use Rattle.std.proofs.Common.{◌≡◌, map, drop}
use Rattle.goal_model.specs.VariableLists.{do_meet}
use Rattle.goal_model.proofs.variable_list.do_meet.Given as goal

abbrev pub invariant-variables : goal.invariant-variables
invariant-variables l = do_meet (map (λ x. x.0) (drop l.variable-index l.first)) (map (λ x. x.0) l.second) ≡ do_meet (map (λ x. x.0) l.first) (map (λ x. x.0) l.second)
