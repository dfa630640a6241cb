use Rattle.std.proofs.Common.{sym, subst}
use Rattle.std.specs.Prelude.{Contains}
use Rattle.state_space.specs.Ranges.{form_of}
use Rattle.goal_model.specs.Scopes.{ScopeForm, scope_of}
use Rattle.goal_model.proofs.GoodRanges.{fresh_new, good_range}
use Rattle.goal_model.proofs.variables.take_variable.Goals as goal

pub add_variable-requires-clause-new : goal.add_variable-requires-clause-new
add_variable-requires-clause-new c = subst (λ (s : ScopeForm). ¬ (Contains s.names c.args.name.now)) c.scope.ensures.scope (fresh_new (scope_of c.scope.result) c.args.name.now c.in_ok-fresh.ensures)

pub add_variable-requires-clause-good : goal.add_variable-requires-clause-good
add_variable-requires-clause-good c = good_range (form_of c.args.range.now) c.in_ok-values_apart.ensures (sym c.if-not-has_few_values.ensures)
