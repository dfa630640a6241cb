use Rattle.std.proofs.Common.{arith}
use Rattle.goal_model.specs.Scopes.{scope_of}
use Rattle.goal_model.proofs.Places.{attribute_inside, attribute_small}
use Rattle.goal_model.proofs.namespace.Scope.attribute.Goals as goal

pub overflow_cast-result : goal.overflow_cast-result
overflow_cast-result c = omega (arith, attribute_small c.args.self.now.entities.now c.in_ok-used.field-0 (attribute_inside (scope_of c.args.self.now) c.args.name.now c.in_ok-used.field-0 c.requires c.in_ok-used.ensures))

pub returns-clause-inside : goal.returns-clause-inside
returns-clause-inside c = attribute_inside (scope_of c.args.self.now) c.args.name.now c.in_ok-used.field-0 c.requires c.in_ok-used.ensures
