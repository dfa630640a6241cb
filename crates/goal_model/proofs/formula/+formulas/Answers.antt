use Rattle.std.proofs.Common.{◌≡◌, ℕ, Box, Global, sym, ap, subst, ◌∙◌}
use Rattle.model_text.specs.declared.raw_formula.RawFormula.{RawFormula}
use Rattle.model_text.specs.RawView.{raw_tree}
use Rattle.entity_types.specs.declared.written.Written.{Written}
use Rattle.entity_types.specs.WrittenTrees.{WrittenTree, all, exists}
use Rattle.entity_types.specs.View.{written_tree}
use Rattle.goal_model.specs.Refusals.{Resolved, Gives}
use Rattle.goal_model.specs.Scopes.{scope_of}
use Rattle.goal_model.specs.Formulas.{each_in, written_in}
use Rattle.goal_model.proofs.Walking.{handed_on}
use Rattle.goal_model.proofs.Quantified.{stopped_as}
use Rattle.goal_model.proofs.formula.+formulas.Goals as goal

pub written-returns-in_ok-entity-in-All : goal.written-returns-in_ok-entity-in-All
written-returns-in_ok-entity-in-All t c =
    let s = scope_of c.args.scope.now in
    ap (λ (r : RawFormula). written_in s (raw_tree r)) c.in-All.is
    ∙ ap (λ (b : RawFormula). each_in s c.in-All.x c.in-All.entity all (λ inner. written_in inner (raw_tree b))) (sym c.deref-in-All.ensures)
    ∙ c.in_ok-entity-in-All.ensures all

pub written-returns-in_ok-entity-in-Exists : goal.written-returns-in_ok-entity-in-Exists
written-returns-in_ok-entity-in-Exists t c =
    let s = scope_of c.args.scope.now in
    ap (λ (r : RawFormula). written_in s (raw_tree r)) c.in-Exists.is
    ∙ ap (λ (b : RawFormula). each_in s c.in-Exists.x c.in-Exists.entity exists (λ inner. written_in inner (raw_tree b))) (sym c.deref-in-Exists.ensures)
    ∙ c.in_ok-entity-in-Exists.ensures exists

pub written-returns-in_err-entity-in-All : goal.written-returns-in_err-entity-in-All
written-returns-in_err-entity-in-All t c =
    let s = scope_of c.args.scope.now in
    let whole : Resolved WrittenTree = each_in s c.in-All.x c.in-All.entity all (λ inner. written_in inner (raw_tree c.deref-in-All.result.now)) in
    let e : written_in s (raw_tree c.args.raw.now) ≡ whole =
    ap (λ (r : RawFormula). written_in s (raw_tree r)) c.in-All.is
    ∙ ap (λ (b : RawFormula). each_in s c.in-All.x c.in-All.entity all (λ inner. written_in inner (raw_tree b))) (sym c.deref-in-All.ensures) in
    subst (λ (o : Resolved WrittenTree). Gives written_tree c.from_residual-in_err-entity-in-All.result o) (sym e)
    (handed_on written_tree c.from_residual-in_err-entity-in-All.result c.in_err-entity-in-All.field-0.0 whole c.from_residual-in_err-entity-in-All.ensures.1
    (stopped_as (λ (p : ℕ × Box Written Global). all p.0 (written_tree p.1.value)) written_tree c.in_err-entity-in-All.field-0.0 whole (c.in_err-entity-in-All.ensures all)))

pub written-returns-in_err-entity-in-Exists : goal.written-returns-in_err-entity-in-Exists
written-returns-in_err-entity-in-Exists t c =
    let s = scope_of c.args.scope.now in
    let whole : Resolved WrittenTree = each_in s c.in-Exists.x c.in-Exists.entity exists (λ inner. written_in inner (raw_tree c.deref-in-Exists.result.now)) in
    let e : written_in s (raw_tree c.args.raw.now) ≡ whole =
    ap (λ (r : RawFormula). written_in s (raw_tree r)) c.in-Exists.is
    ∙ ap (λ (b : RawFormula). each_in s c.in-Exists.x c.in-Exists.entity exists (λ inner. written_in inner (raw_tree b))) (sym c.deref-in-Exists.ensures) in
    subst (λ (o : Resolved WrittenTree). Gives written_tree c.from_residual-in_err-entity-in-Exists.result o) (sym e)
    (handed_on written_tree c.from_residual-in_err-entity-in-Exists.result c.in_err-entity-in-Exists.field-0.0 whole c.from_residual-in_err-entity-in-Exists.ensures.1
    (stopped_as (λ (p : ℕ × Box Written Global). exists p.0 (written_tree p.1.value)) written_tree c.in_err-entity-in-Exists.field-0.0 whole (c.in_err-entity-in-Exists.ensures exists)))
