use Rattle.std.proofs.Common.{◌≡◌, drop}
use Rattle.goal_model.specs.Scopes.{scope_of}
use Rattle.goal_model.specs.Resolution.{all_fresh}
use Rattle.goal_model.proofs.namespace.Scope.all_fresh.Given as goal

abbrev pub invariant-names : goal.invariant-names
invariant-names l = all_fresh (scope_of l.self) (drop l.name-index l.names) ≡ all_fresh (scope_of l.self) l.names
