-- Truth depends on the variables that occur in a formula.
use Rattle.std.proofs.Common.{◌≡◌, ℕ, ◌+◌, ◌↔◌, List, ◌++◌, refl, arith}
use Rattle.std.specs.Int.{bit_at}
use Rattle.std.proofs.lemmas.List.Elements.{Contains-append_left, Contains-append_right}
use Rattle.temporal_logic.specs.Ltl.{Ltl, truth, falsity, flag, compares, among, relates, neg, conj, disj, implies, iff, entails, next, eventually, always, until, unless, release, eventually_within, always_within, until_within, unless_within, release_within}
use Rattle.temporal_logic.specs.Shapes.{variables_of}
use Rattle.temporal_logic.specs.Truth.{Trace, Compares, Truth}
use Rattle.temporal_logic.proofs.Equivalences.{iff_refl, iff_trans, not_iff, and_iff, or_iff, to_iff, iff_iff, value_iff, sometime_iff, ever_iff, between_iff, some_between_iff, until_iff, releases_iff, until_before_iff, releases_before_iff}
use Rattle.agent_capabilities.specs.Occurrences.{AgreeOn}

values_iff : (P : ℕ → ℕ → Type 0) {a b c d : ℕ} → a ≡ b → c ≡ d → P a c ↔ P b d
values_iff P {a} {b} {c} {d} e f = iff_trans (value_iff (λ v. P v c) e) (value_iff (λ v. P b v) f)

module _ (t u : Trace) where
  left : (xs ys : List ℕ) → AgreeOn (xs ++ ys) t u → AgreeOn xs t u
  left xs ys same i x h = same i x (Contains-append_left xs ys x h)

  right : (xs ys : List ℕ) → AgreeOn (xs ++ ys) t u → AgreeOn ys t u
  right xs ys same i x h = same i x (Contains-append_right xs ys x h)

  first : (a b : Ltl) → AgreeOn (variables_of a ++ variables_of b) t u → AgreeOn (variables_of a) t u
  first a b = left (variables_of a) (variables_of b)

  second : (a b : Ltl) → AgreeOn (variables_of a ++ variables_of b) t u → AgreeOn (variables_of b) t u
  second a b = right (variables_of a) (variables_of b)

  pub truth_occurring : (f : Ltl) → AgreeOn (variables_of f) t u → (i : ℕ) → Truth t f i ↔ Truth u f i
  truth_occurring truth s i = iff_refl
  truth_occurring falsity s i = iff_refl
  truth_occurring (flag x) s i = value_iff (λ w. w ≡ 1) (s i x (0, omega arith, refl))
  truth_occurring (compares x r w) s i = value_iff (λ z. Compares r z w) (s i x (0, omega arith, refl))
  truth_occurring (among x set) s i = value_iff (λ w. bit_at set w ≡ 1) (s i x (0, omega arith, refl))
  truth_occurring (relates x r y) s i = values_iff (Compares r) (s i x (0, omega arith, refl)) (s i y (1, omega arith, refl))
  truth_occurring (neg a) s i = not_iff (truth_occurring a s i)
  truth_occurring (conj a b) s i = and_iff (truth_occurring a (first a b s) i) (truth_occurring b (second a b s) i)
  truth_occurring (disj a b) s i = or_iff (truth_occurring a (first a b s) i) (truth_occurring b (second a b s) i)
  truth_occurring (implies a b) s i = to_iff (truth_occurring a (first a b s) i) (truth_occurring b (second a b s) i)
  truth_occurring (iff a b) s i = iff_iff (truth_occurring a (first a b s) i) (truth_occurring b (second a b s) i)
  truth_occurring (entails a b) s i =
      ever_iff (λ j. Truth t a j → Truth t b j) (λ j. Truth u a j → Truth u b j) (λ j. to_iff (truth_occurring a (first a b s) j) (truth_occurring b (second a b s) j)) i
  truth_occurring (next a) s i = truth_occurring a s (i + 1)
  truth_occurring (eventually a) s i = sometime_iff (Truth t a) (Truth u a) (truth_occurring a s) i
  truth_occurring (always a) s i = ever_iff (Truth t a) (Truth u a) (truth_occurring a s) i
  truth_occurring (until a b) s i =
      until_iff (Truth t a) (Truth t b) (Truth u a) (Truth u b) (truth_occurring a (first a b s)) (truth_occurring b (second a b s)) i
  truth_occurring (unless a b) s i =
      or_iff (until_iff (Truth t a) (Truth t b) (Truth u a) (Truth u b) (truth_occurring a (first a b s)) (truth_occurring b (second a b s)) i) (ever_iff (Truth t a) (Truth u a) (truth_occurring a (first a b s)) i)
  truth_occurring (release a b) s i =
      releases_iff (Truth t a) (Truth t b) (Truth u a) (Truth u b) (truth_occurring a (first a b s)) (truth_occurring b (second a b s)) i
  truth_occurring (eventually_within d a) s i = some_between_iff (Truth t a) (Truth u a) (truth_occurring a s) i (i + d + 1)
  truth_occurring (always_within d a) s i = between_iff (Truth t a) (Truth u a) (truth_occurring a s) i (i + d + 1)
  truth_occurring (until_within d a b) s i =
      until_before_iff (Truth t a) (Truth t b) (Truth u a) (Truth u b) (truth_occurring a (first a b s)) (truth_occurring b (second a b s)) i (i + d + 1)
  truth_occurring (unless_within d a b) s i =
      or_iff (until_before_iff (Truth t a) (Truth t b) (Truth u a) (Truth u b) (truth_occurring a (first a b s)) (truth_occurring b (second a b s)) i (i + d + 1)) (between_iff (Truth t a) (Truth u a) (truth_occurring a (first a b s)) i (i + d + 1))
  truth_occurring (release_within d a b) s i =
      releases_before_iff (Truth t a) (Truth t b) (Truth u a) (Truth u b) (truth_occurring a (first a b s)) (truth_occurring b (second a b s)) i (i + d + 1)
