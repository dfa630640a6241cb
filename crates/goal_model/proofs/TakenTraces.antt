-- Traces that are taken, or refused for want of a loop.
use Rattle.std.proofs.Common.{◌≡◌, ◌↔◌, ℕ, zero, suc, ◌<◌, true, List, [], ◌∷◌, length, map, set, get_or, Result, Ok, Err, refl, sym, ap, subst, arith}
use Rattle.std.specs.Prelude.{All, IsOk}
use Rattle.std.proofs.lemmas.List.{length-map, get_or-map}
use Rattle.state_space.specs.declared.state.State.{State}
use Rattle.state_space.specs.Fitting.{ValuesFit}
use Rattle.temporal_logic.specs.declared.lasso.Lasso.{Lasso}
use Rattle.temporal_logic.specs.declared.lasso.LassoRefusal.{LassoRefusal}
use Rattle.temporal_logic.specs.declared.lasso.LassoRefusal.TheVariants.{EmptyLoop, StateOutOfSpace}
use Rattle.temporal_logic.specs.Rows.{rows, AllFit}
use Rattle.model_text.specs.Statements.{Setting}
use Rattle.goal_model.specs.declared.refusal.RefusalKind.TheVariants.{BadValue}
use Rattle.goal_model.specs.declared.contents.Goal.{Goal}
use Rattle.goal_model.specs.Refusals.{Resolved, refused, Gives}
use Rattle.goal_model.specs.declared.refusal.Stop.{Stop}
use Rattle.goal_model.proofs.Walking.{refused_as}
use Rattle.goal_model.specs.Scopes.{fresh}
use Rattle.goal_model.specs.States.{states_in}
use Rattle.goal_model.specs.Models.{goal_of}
use Rattle.goal_model.specs.Drafts.{DraftForm, scope_of, expected_at}
use Rattle.goal_model.specs.Resolution.{trace_taken}

states_of_rows : (sizes : List ℕ) (states : List State) → All (ValuesFit sizes) (rows states) → AllFit sizes states
states_of_rows sizes states fit k d l =
    subst (ValuesFit sizes) (get_or-map (λ (s : State). s.values.items) states k d d.values.items l) (fit k d.values.items (rw (length-map states (λ (s : State). s.values.items)) l))

-- states that fit make no lasso for want of a loop alone
pub no_loop : (sizes : List ℕ) (prefix cycle : List State) (o : Result Lasso LassoRefusal) → (o ≡ Err EmptyLoop) ↔ (cycle ≡ []) → (o ≡ Err StateOutOfSpace) ↔ ((0 < length cycle) × ¬ (AllFit sizes prefix × AllFit sizes cycle))
    → ¬ (IsOk o) → All (ValuesFit sizes) (rows prefix) → All (ValuesFit sizes) (rows cycle) → cycle ≡ []
no_loop sizes prefix cycle (Ok l) empty out none before after = absurd (none refl)
no_loop sizes prefix cycle (Err EmptyLoop) empty out none before after = empty.0 refl
no_loop sizes prefix cycle (Err StateOutOfSpace) empty out none before after = absurd ((out.0 refl).1 (states_of_rows sizes prefix before, states_of_rows sizes cycle after))

pub trace_empty : (d : DraftForm) (x : List ℕ) (ps cs : List (List Setting)) (before after : List (List ℕ)) → fresh (scope_of d) x ≡ Ok tt → states_in (scope_of d) ps ≡ Ok before → states_in (scope_of d) cs ≡ Ok after → after ≡ [] → trace_taken d x ps cs ≡ refused BadValue x
trace_empty d x ps cs before after new e f none = rw (new, e, f, none) refl

pub expected_set : (gs : List Goal) (k : ℕ) (g : Goal) → k < length gs → map goal_of (set gs k (record (get_or gs k g) { expected = true })) ≡ expected_at k (map goal_of gs)
expected_set [] k g l = absurd (omega (arith, l))
expected_set (h ∷ hs) zero g l = refl
expected_set (h ∷ hs) (suc k) g l = ap (λ gs. goal_of h ∷ gs) (expected_set hs k g (omega (arith, l)))

pub refused_here : {A B : Type 0} (view : A → B) (o : Result A Stop) (whole : Resolved B) (x : List ℕ) → whole ≡ refused BadValue x → Gives (λ a. a) o (refused BadValue x) → Gives view o whole
refused_here view o whole x e given = subst (Gives view o) (sym e) (refused_as view o BadValue x given)
