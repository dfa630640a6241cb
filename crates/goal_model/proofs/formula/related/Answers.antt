use Rattle.std.proofs.Common.{sym, subst, ◌∙◌}
use Rattle.std.proofs.lemmas.Bool.{false≢true}
use Rattle.state_space.specs.Ranges.{form_of}
use Rattle.temporal_logic.specs.Trees.{relation_of}
use Rattle.entity_types.specs.WrittenTrees.{WrittenTree}
use Rattle.entity_types.specs.View.{term_of, written_tree}
use Rattle.goal_model.specs.declared.refusal.RefusalKind.TheVariants.{BadValue}
use Rattle.goal_model.specs.Refusals.{Resolved, Gives}
use Rattle.goal_model.specs.Scopes.{scope_of}
use Rattle.goal_model.proofs.WrittenParts.{related_taken, related_refused}
use Rattle.goal_model.proofs.Walking.{refused_as}
use Rattle.goal_model.proofs.formula.related.Goals as goal

pub returns-then-not-is_same : goal.returns-then-not-is_same
returns-then-not-is_same c =
    let s = scope_of c.args.scope.now in
    let e =
    related_refused s c.args.name.now (term_of c.args.term) (relation_of c.args.cmp) (term_of c.args.other) (form_of c.range.result.now) (form_of c.range-2.result.now) c.range.ensures.range c.range-2.ensures.range
    (λ e. false≢true (sym c.if-not-is_same.true ∙ c.is_same.ensures.same.1 e)) in
    subst (λ (o : Resolved WrittenTree). Gives written_tree c.refused.result o) (sym e) (refused_as written_tree c.refused.result BadValue c.args.name.now c.refused.ensures)

pub returns : goal.returns
returns c =
    related_taken (scope_of c.args.scope.now) c.args.name.now (term_of c.args.term) (relation_of c.args.cmp) (term_of c.args.other) (form_of c.range.result.now) (form_of c.range-2.result.now) c.range.ensures.range c.range-2.ensures.range
    (c.is_same.ensures.same.0 c.if-not-is_same.false)
