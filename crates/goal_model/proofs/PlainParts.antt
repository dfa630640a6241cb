-- Plain formulas: what a draft's written formula is without attributes and quantifiers, and when it is too wide.
use Rattle.std.proofs.Common.{◌≡◌, ℕ, ◌<◌, ◌≤◌, min, Bool, true, false, List, [], Ok, eqb, refl, sym, ap, subst, ◌∙◌, arith}
use Rattle.std.specs.Prelude.{not, ◌||◌}
use Rattle.std.proofs.lemmas.Bool.{eq-eqb, ne_eqb, le-leb, lt-leb}
use Rattle.model_text.specs.RawTrees.{RawTree}
use Rattle.entity_types.specs.Rows.{Rows}
use Rattle.entity_types.specs.Fits.{Fits}
use Rattle.entity_types.specs.WrittenTrees.{WrittenTree}
use Rattle.entity_types.specs.Grounding.{ground_of, nodes}
use Rattle.entity_types.specs.View.{rows_of}
use Rattle.goal_model.specs.declared.draft.Draft.{Draft}
use Rattle.goal_model.specs.declared.refusal.RefusalKind.TheVariants.{TooWide}
use Rattle.goal_model.specs.Refusals.{and_then, holds, refused}
use Rattle.goal_model.specs.Scopes.{ScopeForm}
use Rattle.goal_model.specs.Formulas.{written_in, plain_of, is_narrow}
use Rattle.goal_model.specs.Drafts.{DraftForm, draft_of, scope_of}
use Rattle.goal_model.specs.WholeDrafts.{IsDraft}
use Rattle.goal_model.specs.Resolution.{plain_in}
use Rattle.goal_model.proofs.EntityViews.{rows_same}
use Rattle.goal_model.proofs.Scoped.{draft_scope}
use Rattle.goal_model.proofs.Fitting.{written_fits}

-- the plain formula, as the code has it
pub grounded : (d : Draft) (f : WrittenTree) → ground_of (rows_of d.contents.entities) [] f ≡ plain_of (scope_of (draft_of d)) f
grounded d f = ap (λ (rows : Rows). ground_of rows [] f) (rows_same d.contents.entities)

-- what was written fits the entities of the code
pub written_fitting : (d : Draft) (s : ScopeForm) (raw : RawTree) (f : WrittenTree) → IsDraft (draft_of d) → s ≡ scope_of (draft_of d) → written_in s raw ≡ Ok f → Fits (rows_of d.contents.entities) [] f
written_fitting d s raw f h same e =
    subst (λ (rows : Rows). Fits rows [] f) (sym (rows_same d.contents.entities))
    (written_fits (scope_of (draft_of d)) (draft_scope (draft_of d) h) raw f (ap (λ (t : ScopeForm). written_in t raw) (sym same) ∙ e))

tested : (d : DraftForm) (x : List ℕ) (f : WrittenTree) (version : Bool) (narrow : Bool) → eqb d.version 2 ≡ version → is_narrow (scope_of d) f ≡ narrow
    → plain_in d x f ≡ and_then (holds (not version || narrow) TooWide x) (λ _. Ok (plain_of (scope_of d) f))
tested d x f version narrow e g =
    ap (λ (b : Bool). and_then (holds (not b || is_narrow (scope_of d) f) TooWide x) (λ _. Ok (plain_of (scope_of d) f))) e
    ∙ ap (λ (b : Bool). and_then (holds (not version || b) TooWide x) (λ _. Ok (plain_of (scope_of d) f))) g

pub too_wide : (d : Draft) (x : List ℕ) (f : WrittenTree) (size : ℕ) → d.version ≡ 2 → size ≡ min (nodes (ground_of (rows_of d.contents.entities) [] f)) 4097 → 4096 < size → plain_in (draft_of d) x f ≡ refused TooWide x
too_wide d x f size is e l =
    let same : nodes (ground_of (rows_of d.contents.entities) [] f) ≡ nodes (plain_of (scope_of (draft_of d)) f) = ap nodes (grounded d f) in
    tested (draft_of d) x f true false (eq-eqb d.version 2 is) (lt-leb (nodes (plain_of (scope_of (draft_of d)) f)) 4096 (omega (arith, e, l, same)))

pub narrow_enough : (d : Draft) (x : List ℕ) (f : WrittenTree) (size : ℕ) → d.version ≡ 2 → size ≡ min (nodes (ground_of (rows_of d.contents.entities) [] f)) 4097 → size ≤ 4096 → plain_in (draft_of d) x f ≡ Ok (plain_of (scope_of (draft_of d)) f)
narrow_enough d x f size is e l =
    let same : nodes (ground_of (rows_of d.contents.entities) [] f) ≡ nodes (plain_of (scope_of (draft_of d)) f) = ap nodes (grounded d f) in
    tested (draft_of d) x f true true (eq-eqb d.version 2 is) (le-leb (nodes (plain_of (scope_of (draft_of d)) f)) 4096 (omega (arith, e, l, same)))

pub of_any_width : (d : Draft) (x : List ℕ) (f : WrittenTree) → (d.version ≡ 2 → ⊥) → plain_in (draft_of d) x f ≡ Ok (plain_of (scope_of (draft_of d)) f)
of_any_width d x f other = tested (draft_of d) x f false (is_narrow (scope_of (draft_of d)) f) (ne_eqb d.version 2 other) refl
