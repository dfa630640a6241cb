use Rattle.std.proofs.Common.{◌≡◌, map, drop}
use Rattle.std.specs.Prelude.{◌==◌}
use Rattle.std.specs.List.{list_any}
use Rattle.goal_model.proofs.variable_list.is_among.Given as goal

abbrev pub invariant-variables : goal.invariant-variables
invariant-variables l = list_any (λ y. y == l.variable.0) (map (λ x. x.0) (drop l.other-index l.variables)) ≡ list_any (λ y. y == l.variable.0) (map (λ x. x.0) l.variables)
