use Rattle.std.proofs.Common.{Some, None, sym, subst, ◌∙◌}
use Rattle.entity_types.specs.WrittenTrees.{TermForm}
use Rattle.entity_types.specs.View.{term_of}
use Rattle.goal_model.specs.declared.refusal.RefusalKind.TheVariants.{UnknownName}
use Rattle.goal_model.specs.Refusals.{Resolved, Gives}
use Rattle.goal_model.specs.Scopes.{scope_of}
use Rattle.goal_model.proofs.Walking.{refused_as}
use Rattle.goal_model.proofs.TermParts.{owner_same, member_sought}
use Rattle.goal_model.proofs.terms.of_member.Goals as goal

pub returns-in-Some : goal.returns-in-Some
returns-in-Some c =
    let s = c.args.scope.now in
    let owner = owner_same s c.args.attribute ∙ sym c.entity_of-entity.ensures.entity in
    member_sought (scope_of s) c.args.attribute c.args.inner.now c.entity_of-entity.result c.bytes.result.now (Some c.in-Some.member) owner c.bytes.ensures.bytes c.in-Some.ensures.place

pub returns-in-None : goal.returns-in-None
returns-in-None c =
    let s = c.args.scope.now in
    let owner = owner_same s c.args.attribute ∙ sym c.entity_of-entity.ensures.entity in
    let e = member_sought (scope_of s) c.args.attribute c.args.inner.now c.entity_of-entity.result c.bytes.result.now None owner c.bytes.ensures.bytes c.in-None.ensures.place in
    subst (λ (o : Resolved TermForm). Gives term_of c.refused.result o) (sym e) (refused_as term_of c.refused.result UnknownName c.args.inner.now c.refused.ensures)
