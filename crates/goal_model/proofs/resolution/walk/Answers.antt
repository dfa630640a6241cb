use Rattle.std.proofs.Common.{◌≡◌, ◌+◌, ◌<◌, ◌≤◌, length, drop, get_or, sym, ap, subst, ◌∙◌, arith}
use Rattle.model_text.specs.Statements.{statements_of, all_statements}
use Rattle.goal_model.specs.Drafts.{DraftForm, draft_of, finished}
use Rattle.goal_model.specs.WholeDrafts.{IsDraft}
use Rattle.goal_model.specs.Resolution.{outcome_from, outcome_of}
use Rattle.goal_model.specs.Outcomes.{sized_all}
use Rattle.goal_model.specs.declared.draft.Draft.{Draft}
use Rattle.goal_model.proofs.Stepping.{outcome_at, outcome_end, none_draft, shallow_at, refused_on}
use Rattle.goal_model.proofs.resolution.walk.Goals as goal

pub statements-init : goal.statements-init
statements-init c = record { walked = ap (λ (d : DraftForm). outcome_from d 1 (all_statements c.args.raw.now.statements.items)) c.new-draft.ensures; draft = subst IsDraft (sym c.new-draft.ensures) none_draft; few = subst (λ (d : DraftForm). length d.model.members ≤ 0) (sym c.new-draft.ensures) (omega arith) }

pub statements-preserved : goal.statements-preserved
statements-preserved c =
    let ss = c.args.raw.now.statements.items in
    let item : c.statement-item.result ≡ get_or ss c.statements.place c.statement-item.result = rw c.deref-statement-items.ensures.value at c.statement-item.is in
    let inside : c.statements.place < length ss = rw c.deref-statement-items.ensures.value at c.statements-test.true in
    record {
      walked = sym (c.in_ok-step.ensures.answer (λ (next : DraftForm). outcome_from next (c.statements.place + 1 + 1) (all_statements (drop (c.statements.place + 1) ss)))) ∙ sym (outcome_at (draft_of c.statements.draft) ss c.statements.place c.statement-item.result inside item) ∙ c.statements.invariant.walked;
      draft = c.in_ok-step.ensures.draft;
      few = omega (arith, c.in_ok-step.ensures.few, c.statements.invariant.few);
    }

pub step-requires-clause-shallow : goal.step-requires-clause-shallow
step-requires-clause-shallow c =
    let ss = c.args.raw.now.statements.items in
    let item : c.statement-item.result ≡ get_or ss c.statements.place c.statement-item.result = rw c.deref-statement-items.ensures.value at c.statement-item.is in
    let inside : c.statements.place < length ss = rw c.deref-statement-items.ensures.value at c.statements-test.true in
    shallow_at ss c.statements.place c.statement-item.result inside item c.requires.shallow

pub returns-in_err-step-clause-answer : goal.returns-in_err-step-clause-answer
returns-in_err-step-clause-answer c =
    let ss = c.args.raw.now.statements.items in
    let item : c.statement-item.result ≡ get_or ss c.statements.place c.statement-item.result = rw c.deref-statement-items.ensures.value at c.statement-item.is in
    let inside : c.statements.place < length ss = rw c.deref-statement-items.ensures.value at c.statements-test.true in
    refused_on (λ (d : Draft). sized_all (finished (draft_of d).model)) c.from_residual.result c.in_err-step.field-0.0 _ (outcome_of (statements_of c.args.raw.now)) c.from_residual.ensures.1
    (c.in_err-step.ensures.answer (λ (next : DraftForm). outcome_from next (c.statements.place + 1 + 1) (all_statements (drop (c.statements.place + 1) ss))))
    (sym (outcome_at (draft_of c.statements.draft) ss c.statements.place c.statement-item.result inside item) ∙ c.statements.invariant.walked)

pub returns-clause-answer : goal.returns-clause-answer
returns-clause-answer c =
    let ss = c.args.raw.now.statements.items in
    let past : length ss ≤ c.statements.place = rw c.deref-statement-items.ensures.value at c.statements-test.false in
    sym c.statements.invariant.walked ∙ outcome_end (draft_of c.statements.draft) ss c.statements.place past
