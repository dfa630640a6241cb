-- Truth depends on the values of the variables that are named, and that of a state formula on those at its position.
use Rattle.std.proofs.Common.{◌≡◌, ℕ, ◌+◌, ◌<◌, ◌↔◌, refl, sym, subst, Bool, true, false}
use Rattle.std.specs.Prelude.{◌&&◌}
use Rattle.std.specs.Int.{bit_at}
use Rattle.temporal_logic.specs.Ltl.{Ltl, truth, falsity, flag, compares, among, relates, neg, conj, disj, implies, iff, entails, next, eventually, always, until, unless, release, eventually_within, always_within, until_within, unless_within, release_within}
use Rattle.temporal_logic.specs.Shapes.{is_state_of, VariablesBelow}
use Rattle.temporal_logic.specs.Truth.{Trace, Compares, Truth}
use Rattle.temporal_logic.proofs.Equivalences.{iff_refl, iff_sym, iff_trans, not_iff, and_iff, or_iff, to_iff, iff_iff, value_iff, sometime_iff, ever_iff, between_iff, some_between_iff, until_iff, releases_iff, until_before_iff, releases_before_iff}
use Rattle.std.proofs.lemmas.Bool.{and_parts}

values_iff : (P : ℕ → ℕ → Type 0) {a b c d : ℕ} → a ≡ b → c ≡ d → P a c ↔ P b d
values_iff P {a} {b} {c} {d} e f = iff_trans (value_iff (λ v. P v c) e) (value_iff (λ v. P b v) f)

-- ---- traces that agree
pub truth_along : (f : Ltl) (t u : Trace) → ((i x : ℕ) → t i x ≡ u i x) → (i : ℕ) → Truth t f i ↔ Truth u f i
truth_along f t u same i =
    let e : t ≡ u = λ k i x. same i x k in (λ h. subst (λ v. Truth v f i) e h, λ h. subst (λ v. Truth v f i) (sym e) h)

module _ (n : ℕ) (t u : Trace) (same : (i x : ℕ) → x < n → t i x ≡ u i x) where
  pub truth_below : (f : Ltl) → VariablesBelow n f → (i : ℕ) → Truth t f i ↔ Truth u f i
  truth_below truth v i = iff_refl
  truth_below falsity v i = iff_refl
  truth_below (flag x) v i = value_iff (λ w. w ≡ 1) (same i x v)
  truth_below (compares x r w) v i = value_iff (λ z. Compares r z w) (same i x v)
  truth_below (among x set) v i = value_iff (λ w. bit_at set w ≡ 1) (same i x v)
  truth_below (relates x r y) v i = values_iff (Compares r) (same i x v.0) (same i y v.1)
  truth_below (neg a) v i = not_iff (truth_below a v i)
  truth_below (conj a b) v i = and_iff (truth_below a v.0 i) (truth_below b v.1 i)
  truth_below (disj a b) v i = or_iff (truth_below a v.0 i) (truth_below b v.1 i)
  truth_below (implies a b) v i = to_iff (truth_below a v.0 i) (truth_below b v.1 i)
  truth_below (iff a b) v i = iff_iff (truth_below a v.0 i) (truth_below b v.1 i)
  truth_below (entails a b) v i =
      ever_iff (λ j. Truth t a j → Truth t b j) (λ j. Truth u a j → Truth u b j) (λ j. to_iff (truth_below a v.0 j) (truth_below b v.1 j)) i
  truth_below (next a) v i = truth_below a v (i + 1)
  truth_below (eventually a) v i = sometime_iff (Truth t a) (Truth u a) (truth_below a v) i
  truth_below (always a) v i = ever_iff (Truth t a) (Truth u a) (truth_below a v) i
  truth_below (until a b) v i = until_iff (Truth t a) (Truth t b) (Truth u a) (Truth u b) (truth_below a v.0) (truth_below b v.1) i
  truth_below (unless a b) v i =
      or_iff (until_iff (Truth t a) (Truth t b) (Truth u a) (Truth u b) (truth_below a v.0) (truth_below b v.1) i) (ever_iff (Truth t a) (Truth u a) (truth_below a v.0) i)
  truth_below (release a b) v i = releases_iff (Truth t a) (Truth t b) (Truth u a) (Truth u b) (truth_below a v.0) (truth_below b v.1) i
  truth_below (eventually_within d a) v i = some_between_iff (Truth t a) (Truth u a) (truth_below a v) i (i + d + 1)
  truth_below (always_within d a) v i = between_iff (Truth t a) (Truth u a) (truth_below a v) i (i + d + 1)
  truth_below (until_within d a b) v i =
      until_before_iff (Truth t a) (Truth t b) (Truth u a) (Truth u b) (truth_below a v.0) (truth_below b v.1) i (i + d + 1)
  truth_below (unless_within d a b) v i =
      or_iff (until_before_iff (Truth t a) (Truth t b) (Truth u a) (Truth u b) (truth_below a v.0) (truth_below b v.1) i (i + d + 1)) (between_iff (Truth t a) (Truth u a) (truth_below a v.0) i (i + d + 1))
  truth_below (release_within d a b) v i =
      releases_before_iff (Truth t a) (Truth t b) (Truth u a) (Truth u b) (truth_below a v.0) (truth_below b v.1) i (i + d + 1)

-- ---- state formulas
-- a state formula is true where it is on the trace that stays at the values there
pub state_stays : (f : Ltl) → is_state_of f ≡ true → (t : Trace) (i : ℕ) → Truth t f i ↔ Truth (λ k. t i) f 0
state_stays truth s t i = iff_refl
state_stays falsity s t i = iff_refl
state_stays (flag x) s t i = iff_refl
state_stays (compares x r v) s t i = iff_refl
state_stays (among x set) s t i = iff_refl
state_stays (relates x r y) s t i = iff_refl
state_stays (neg a) s t i = not_iff (state_stays a s t i)
state_stays (conj a b) s t i =
    let both = and_parts (is_state_of a) (is_state_of b) s in and_iff (state_stays a both.0 t i) (state_stays b both.1 t i)
state_stays (disj a b) s t i =
    let both = and_parts (is_state_of a) (is_state_of b) s in or_iff (state_stays a both.0 t i) (state_stays b both.1 t i)
state_stays (implies a b) s t i =
    let both = and_parts (is_state_of a) (is_state_of b) s in to_iff (state_stays a both.0 t i) (state_stays b both.1 t i)
state_stays (iff a b) s t i =
    let both = and_parts (is_state_of a) (is_state_of b) s in iff_iff (state_stays a both.0 t i) (state_stays b both.1 t i)
state_stays f s t i = absurd (cc)

pub state_truth : (f : Ltl) → is_state_of f ≡ true → (t u : Trace) (i j : ℕ) → ((x : ℕ) → t i x ≡ u j x) → Truth t f i ↔ Truth u f j
state_truth f s t u i j same =
    iff_trans (state_stays f s t i) (iff_trans (truth_along f (λ k. t i) (λ k. u j) (λ k. same) 0) (iff_sym (state_stays f s u j)))

pub state_truth_below : (n : ℕ) (f : Ltl) → VariablesBelow n f → is_state_of f ≡ true → (t u : Trace) (i j : ℕ) → ((x : ℕ) → x < n → t i x ≡ u j x) → Truth t f i ↔ Truth u f j
state_truth_below n f v s t u i j same =
    iff_trans (state_stays f s t i) (iff_trans (truth_below n (λ k. t i) (λ k. u j) (λ k. same) f v 0) (iff_sym (state_stays f s u j)))
