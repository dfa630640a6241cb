-- Statements, a step at a time.
use Rattle.std.proofs.Common.{◌≡◌, ℕ, ◌+◌, ◌<◌, ◌≤◌, List, [], length, get_or, drop, Result, Ok, Err, refl, sym, ap, subst, ◌∙◌, arith}
use Rattle.std.specs.Prelude.{All, IsErrAnd}
use Rattle.goal_model.specs.declared.refusal.ModelRefusal.{ModelRefusal}
use Rattle.std.proofs.lemmas.List.{at_drop_more, at_drop_all, length-map, get_or-map}
use Rattle.std.proofs.lemmas.List.Elements.{All-nil}
use Rattle.model_text.specs.declared.statement.Statement.{Statement}
use Rattle.model_text.specs.Statements.{statement_of, all_statements}
use Rattle.goal_model.specs.Drafts.{DraftForm, no_draft, finished}
use Rattle.goal_model.specs.WholeDrafts.{count_of, TraceFitsFirst, IsDraft, IsShallow}
use Rattle.goal_model.specs.Models.{LinkIsOf, AttributeIsOf, HasMembers}
use Rattle.state_space.specs.Ranges.{IsGoodRange}
use Rattle.temporal_logic.specs.Fits.{Fits}
use Rattle.goal_model.specs.Resolution.{Outcome, taken, goes_on, outcome_from}
use Rattle.goal_model.specs.Outcomes.{sized_all, Refuses, AnswersBy}

pub outcome_at : (d : DraftForm) (ss : List Statement) (i : ℕ) (s : Statement) → i < length ss → s ≡ get_or ss i s
    → outcome_from d (i + 1) (all_statements (drop i ss)) ≡ goes_on (i + 1) (taken d (i + 1) (statement_of s.kind)) (λ next. outcome_from next (i + 1 + 1) (all_statements (drop (i + 1) ss)))
unfolding outcome_from
outcome_at d ss i s l is =
    at_drop_more (λ ts. outcome_from d (i + 1) (all_statements ts)) ss i s l
    ∙ ap (λ (t : Statement). goes_on (i + 1) (taken d (i + 1) (statement_of t.kind)) (λ next. outcome_from next (i + 1 + 1) (all_statements (drop (i + 1) ss)))) (sym is)

pub outcome_end : (d : DraftForm) (ss : List Statement) (i : ℕ) → length ss ≤ i → outcome_from d (i + 1) (all_statements (drop i ss)) ≡ sized_all (finished d.model)
unfolding outcome_from
outcome_end d ss i l = at_drop_all (λ ts. outcome_from d (i + 1) (all_statements ts)) ss i l

-- the formulas of the statement at a place are as shallow as those of all
pub shallow_at : (ss : List Statement) (i : ℕ) (s : Statement) → i < length ss → s ≡ get_or ss i s → All IsShallow (all_statements ss) → IsShallow (statement_of s.kind)
shallow_at ss i s l is all =
    subst (λ (t : Statement). IsShallow (statement_of t.kind)) (sym is)
    (subst IsShallow (get_or-map (λ t. statement_of t.kind) ss i s (statement_of s.kind) l) (all i (statement_of s.kind) (omega (arith, l, length-map ss (λ t. statement_of t.kind)))))

pub none_draft : IsDraft no_draft
none_draft = record {
  places = All-nil (λ e. e.place < count_of no_draft.model e.kind);
  parts = record {
    few = omega arith;
    count = refl;
    ranges = All-nil IsGoodRange;
    members = All-nil HasMembers;
    attributes = All-nil (AttributeIsOf [] [] []);
    domains = All-nil (λ p. Fits [] p.formula);
    goals = All-nil (λ g. Fits [] g.formula);
    obstacles = All-nil (λ o. Fits [] o.formula);
    operations = All-nil (λ o. (o.agent < 0) × Fits [] o.dompre × Fits [] o.dompost);
    requirements = All-nil (λ r. (r.operation < 0) × Fits [] r.formula);
    links = All-nil (LinkIsOf no_draft.model);
  };
  traces = All-nil (TraceFitsFirst []);
}

-- a refusal is handed on
pub refused_on : {A : Type 0} (meant : A → Outcome) (o : Result A ModelRefusal) (e : ModelRefusal) (here whole : Outcome) → IsErrAnd o (λ x. x ≡ e) → Refuses e here → here ≡ whole → AnswersBy meant o whole
refused_on meant (Ok a) e here whole is given same = absurd is
refused_on meant (Err x) e here whole is given same = subst (λ (y : ModelRefusal). Refuses y whole) (sym is) (subst (Refuses e) same given)
