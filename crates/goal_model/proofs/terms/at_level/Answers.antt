use Rattle.std.proofs.Common.{sym, subst, ◌∙◌}
use Rattle.entity_types.specs.WrittenTrees.{TermForm}
use Rattle.entity_types.specs.View.{term_of}
use Rattle.goal_model.specs.declared.refusal.RefusalKind.TheVariants.{WrongKind}
use Rattle.goal_model.specs.Refusals.{Resolved, Gives}
use Rattle.goal_model.specs.Scopes.{scope_of}
use Rattle.goal_model.proofs.Walking.{refused_as}
use Rattle.goal_model.proofs.TermParts.{owner_same, bound_at, level_chosen, level_refused}
use Rattle.goal_model.proofs.terms.at_level.Goals as goal

pub returns-then-scope-level : goal.returns-then-scope-level
returns-then-scope-level c =
    let s = c.args.scope.now in
    let at = bound_at s.bound.now c.args.level c.index-scope-level.result c.requires.level in
    let owner = owner_same s c.args.attribute ∙ sym c.entity_of.ensures.entity in
    let e = level_refused (scope_of s) c.args.attribute c.args.inner.now c.args.level (λ same. c.if-scope-level.true (sym at ∙ same ∙ owner)) in
    subst (λ (o : Resolved TermForm). Gives term_of c.refused.result o) (sym e) (refused_as term_of c.refused.result WrongKind c.args.inner.now c.refused.ensures)

pub returns : goal.returns
returns c =
    let s = c.args.scope.now in
    let at = bound_at s.bound.now c.args.level c.index-scope-level.result c.requires.level in
    let owner = owner_same s c.args.attribute ∙ sym c.entity_of.ensures.entity in
    level_chosen (scope_of s) c.args.attribute c.args.inner.now c.args.level (at ∙ c.if-scope-level.false ∙ sym owner)
