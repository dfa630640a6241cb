-- Slots that are filled, one formula after the other.
use Rattle.std.proofs.Common.{◌≡◌, ◌↔◌, ⊎_elim, ℕ, ◌<◌, Bool, true, false, IsTrue, List, length, get_or, set, refl, sym, ◌∙◌, subst}
use Rattle.std.specs.Prelude.{Option, Some, None}
use Rattle.std.proofs.lemmas.Bool.{false≢true, cases_eq}
use Rattle.std.proofs.lemmas.Option.{none-some}
use Rattle.std.proofs.lemmas.List.{get_or-set_same, get_or-set_other}
use Rattle.temporal_logic.specs.Ltl.{Ltl, truth}
use Rattle.pattern_library.specs.Slots.{Agree, Finds}

-- the formula in a slot
pub inside : (f g : Ltl) → Some f ≡ Some g → f ≡ g
inside f g e = cc

-- a formula stands in for a placeholder
abbrev StandsIn : (k : ℕ) → Ltl → List Ltl → Type 0
StandsIn k g formulas = get_or formulas k truth ≡ g

-- a placeholder that has a formula has this one, or no other
pub bound_before : (slots : List (Option Ltl)) (k : ℕ) (f g : Ltl) (same : Bool) → get_or slots k None ≡ Some f → IsTrue same ↔ (f ≡ g) → Finds slots slots (StandsIn k g) same
bound_before slots k f g true filled is = λ formulas. ((λ agree. (agree, agree k f filled ∙ is.0 refl)), λ both. both.0)
bound_before slots k f g false filled is = λ formulas agree so. false≢true (is.1 (sym (agree k f filled) ∙ so))

-- a placeholder that has none takes this one
pub bound_now : (slots : List (Option Ltl)) (k : ℕ) (g : Ltl) → k < length slots → get_or slots k None ≡ None → Finds slots (set slots k (Some g)) (StandsIn k g) true
bound_now slots k g inside_slots empty = λ formulas. (
  (λ agree. (kept formulas agree, agree k g (get_or-set_same slots k (Some g) None inside_slots))),
  (λ both j f filled. ⊎_elim (λ here. at formulas both.1 j f here filled) (λ other. both.0 j f (sym (get_or-set_other slots k j (Some g) None other) ∙ filled)) (cases_eq j k)),
)
  where
    at : (formulas : List Ltl) → StandsIn k g formulas → (j : ℕ) (f : Ltl) → j ≡ k → get_or (set slots k (Some g)) j None ≡ Some f → get_or formulas j truth ≡ f
    at formulas so j f here filled =
        let filled_here : get_or (set slots k (Some g)) k None ≡ Some f = subst (λ (i : ℕ). get_or (set slots k (Some g)) i None ≡ Some f) here filled in
        subst (λ (i : ℕ). get_or formulas i truth ≡ f) (sym here) (so ∙ inside g f (sym (get_or-set_same slots k (Some g) None inside_slots) ∙ filled_here))

    kept : (formulas : List Ltl) → Agree (set slots k (Some g)) formulas → Agree slots formulas
    kept formulas agree j f filled =
        ⊎_elim (λ here. absurd (none-some f (sym empty ∙ subst (λ (i : ℕ). get_or slots i None ≡ Some f) here filled)))
        (λ other. agree j f (get_or-set_other slots k j (Some g) None other ∙ filled)) (cases_eq j k)

-- a step behind another one
pub then_finds : (old mid new : List (Option Ltl)) (P Q : List Ltl → Type 0) (found : Bool) → Finds old mid P true → Finds mid new Q found → Finds old new (λ formulas. P formulas × Q formulas) found
then_finds old mid new P Q true first second = λ formulas. (
  (λ agree.
      let behind = (second formulas).0 agree in
      let before = (first formulas).0 behind.0 in
      (before.0, (before.1, behind.1))),
  (λ both. (second formulas).1 ((first formulas).1 (both.0, both.1.0), both.1.1)),
)
then_finds old mid new P Q false first second = λ formulas agree both. second formulas ((first formulas).1 (agree, both.0)) both.1

-- a step that fails fails whatever is asked besides
pub fails_first : (old mid : List (Option Ltl)) (P Q : List Ltl → Type 0) → Finds old mid P false → Finds old mid (λ formulas. P formulas × Q formulas) false
fails_first old mid P Q first = λ formulas agree both. first formulas agree both.0

-- what is so exactly where something else is
pub finds_same : (old new : List (Option Ltl)) (P Q : List Ltl → Type 0) (found : Bool) → ((formulas : List Ltl) → P formulas ↔ Q formulas) → Finds old new P found → Finds old new Q found
finds_same old new P Q true same finds = λ formulas. (
  (λ agree. let both = (finds formulas).0 agree in (both.0, (same formulas).0 both.1)),
  (λ both. (finds formulas).1 (both.0, (same formulas).1 both.1)),
)
finds_same old new P Q false same finds = λ formulas agree so. finds formulas agree ((same formulas).1 so)

-- nothing is asked
pub finds_all : (slots : List (Option Ltl)) (P : List Ltl → Type 0) → ((formulas : List Ltl) → P formulas) → Finds slots slots P true
finds_all slots P all = λ formulas. ((λ agree. (agree, all formulas)), λ both. both.0)
