use Rattle.std.proofs.Common.{sym, subst}
use Rattle.goal_model.specs.Drafts.{draft_of}
use Rattle.goal_model.specs.WholeScopes.{IsScope}
use Rattle.goal_model.proofs.Scoped.{draft_scope}
use Rattle.goal_model.proofs.variables.take_attribute.Goals as goal

pub entity_type-requires : goal.entity_type-requires
entity_type-requires c = subst IsScope (sym c.scope-scope.ensures.scope) (draft_scope (draft_of c.args.draft.now) c.requires)
