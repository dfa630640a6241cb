use Rattle.std.proofs.Common.{arith}
use Rattle.goal_model.specs.Scopes.{scope_of}
use Rattle.goal_model.proofs.Places.{type_inside, type_small}
use Rattle.goal_model.proofs.namespace.Scope.entity_type.Goals as goal

pub overflow_cast-result : goal.overflow_cast-result
overflow_cast-result c = omega (arith, type_small c.args.self.now.entities.now c.in_ok-used.field-0 (type_inside (scope_of c.args.self.now) c.args.name.now c.in_ok-used.field-0 c.requires c.in_ok-used.ensures))

pub returns-clause-inside : goal.returns-clause-inside
returns-clause-inside c = type_inside (scope_of c.args.self.now) c.args.name.now c.in_ok-used.field-0 c.requires c.in_ok-used.ensures
