use Rattle.std.proofs.Common.{◌∙◌, refl, sym, ap, subst}
use Rattle.model_text.specs.Statements.{statements_of}
use Rattle.goal_model.specs.declared.model.Model.{Model}
use Rattle.goal_model.specs.Models.{IsWellFormed}
use Rattle.goal_model.specs.ModelViews.{model_of}
use Rattle.goal_model.specs.Drafts.{draft_of}
use Rattle.goal_model.specs.Resolution.{outcome_of, made}
use Rattle.goal_model.specs.Outcomes.{sized_all, AnswersBy}
use Rattle.goal_model.proofs.Finished.{finished_well}
use Rattle.goal_model.proofs.KnownNames.{apart_if_made, used_if_made}
use Rattle.goal_model.proofs.Stepping.{refused_on}
use Rattle.goal_model.proofs.resolution.resolve.Goals as goal

pub of_contents-requires : goal.of_contents-requires
of_contents-requires c = subst IsWellFormed (sym c.in_ok-contents.ensures) (finished_well (draft_of c.in_ok-draft.draft) c.in_ok-draft.ensures.draft)

pub returns-in_err-draft-clause-exact : goal.returns-in_err-draft-clause-exact
returns-in_err-draft-clause-exact c =
    refused_on (λ (m : Model). made (model_of m)) c.from_residual.result c.in_err-draft.field-0.0 (outcome_of (statements_of c.args.raw.now)) (outcome_of (statements_of c.args.raw.now)) c.from_residual.ensures.1 c.in_err-draft.ensures.answer refl

pub returns-clause-exact : goal.returns-clause-exact
returns-clause-exact c =
    subst (AnswersBy (λ (m : Model). made (model_of m)) c.of_contents.result) (ap sized_all c.in_ok-contents.ensures ∙ sym c.in_ok-draft.ensures.answer) c.of_contents.ensures.answer

pub returns-clause-declared_once : goal.returns-clause-declared_once
returns-clause-declared_once c = apart_if_made c.of_contents.result (statements_of c.args.raw.now) (returns-clause-exact c)

pub returns-clause-used_after : goal.returns-clause-used_after
returns-clause-used_after c = used_if_made c.of_contents.result (statements_of c.args.raw.now) (returns-clause-exact c)
