use Rattle.std.proofs.Common.{◌≡◌, ◌<◌, [], length, map, drop}
use Rattle.std.specs.Prelude.{All}
use Rattle.state_space.specs.Spaces.{names}
use Rattle.goal_model.specs.Scopes.{scope_of}
use Rattle.goal_model.specs.VariableLists.{variables_from}
use Rattle.goal_model.proofs.variable_list.variables.Given as goal

abbrev pub invariant-names : goal.invariant-names
invariant-names l = record {
  walked : variables_from (scope_of l.scope) (map (λ x. x.0) l.variables.items) (drop l.name-index l.names) ≡ variables_from (scope_of l.scope) [] l.names;
  inside : All (λ x. x.0 < length (names l.scope.space.now)) l.variables.items;
}
