-- A variable that occurs in a formula of a space is one of the space.
use Rattle.std.proofs.Common.{ℕ, ◌<◌, List, [], ◌∷◌, ◌++◌, length, subst, arith, ⊎_elim}
use Rattle.std.specs.Prelude.{Contains}
use Rattle.std.proofs.lemmas.List.Elements.{Contains-push_cases, Contains-append_cases}
use Rattle.std.proofs.lemmas.Option.{slice_get_within}
use Rattle.state_space.specs.Ranges.{RangeForm, truth_values}
use Rattle.temporal_logic.specs.Ltl.{Ltl, truth, falsity, flag, compares, among, relates, neg, conj, disj, implies, iff, entails, next, eventually, always, until, unless, release, eventually_within, always_within, until_within, unless_within, release_within}
use Rattle.temporal_logic.specs.Fits.{Fits}
use Rattle.temporal_logic.specs.Shapes.{variables_of}

none : (P : Type 0) (x : ℕ) → Contains [] x → P
none P x has = absurd (omega (arith, has.1))

module _ (ranges : List RangeForm) where
  -- the only one
  one : (x y : ℕ) → y < length ranges → Contains (y ∷ []) x → x < length ranges
  one x y inside has = ⊎_elim (λ h. none (x < length ranges) x h) (λ e. subst (λ z. z < length ranges) e inside) (Contains-push_cases [] y x has)

  two : (x y z : ℕ) → y < length ranges → z < length ranges → Contains (y ∷ z ∷ []) x → x < length ranges
  two x y z first second has = ⊎_elim (λ h. one x y first h) (λ e. subst (λ w. w < length ranges) e second) (Contains-push_cases (y ∷ []) z x has)

  both : (x : ℕ) (ys zs : List ℕ) → (Contains ys x → x < length ranges) → (Contains zs x → x < length ranges) → Contains (ys ++ zs) x → x < length ranges
  both x ys zs first second has = ⊎_elim first second (Contains-append_cases ys zs x has)

  pub occurring_below : (f : Ltl) → Fits ranges f → (x : ℕ) → Contains (variables_of f) x → x < length ranges
  occurring_below truth fit x has = none (x < length ranges) x has
  occurring_below falsity fit x has = none (x < length ranges) x has
  occurring_below (flag y) fit x has = one x y (slice_get_within ranges y truth_values fit) has
  occurring_below (compares y r v) fit x has = one x y fit.0 has
  occurring_below (among y set) fit x has = one x y fit.0 has
  occurring_below (relates y r z) fit x has = two x y z fit.0 fit.1 has
  occurring_below (neg a) fit x has = occurring_below a fit x has
  occurring_below (conj a b) fit x has = both x (variables_of a) (variables_of b) (occurring_below a fit.0 x) (occurring_below b fit.1 x) has
  occurring_below (disj a b) fit x has = both x (variables_of a) (variables_of b) (occurring_below a fit.0 x) (occurring_below b fit.1 x) has
  occurring_below (implies a b) fit x has = both x (variables_of a) (variables_of b) (occurring_below a fit.0 x) (occurring_below b fit.1 x) has
  occurring_below (iff a b) fit x has = both x (variables_of a) (variables_of b) (occurring_below a fit.0 x) (occurring_below b fit.1 x) has
  occurring_below (entails a b) fit x has = both x (variables_of a) (variables_of b) (occurring_below a fit.0 x) (occurring_below b fit.1 x) has
  occurring_below (next a) fit x has = occurring_below a fit x has
  occurring_below (eventually a) fit x has = occurring_below a fit x has
  occurring_below (always a) fit x has = occurring_below a fit x has
  occurring_below (until a b) fit x has = both x (variables_of a) (variables_of b) (occurring_below a fit.0 x) (occurring_below b fit.1 x) has
  occurring_below (unless a b) fit x has = both x (variables_of a) (variables_of b) (occurring_below a fit.0 x) (occurring_below b fit.1 x) has
  occurring_below (release a b) fit x has = both x (variables_of a) (variables_of b) (occurring_below a fit.0 x) (occurring_below b fit.1 x) has
  occurring_below (eventually_within d a) fit x has = occurring_below a fit x has
  occurring_below (always_within d a) fit x has = occurring_below a fit x has
  occurring_below (until_within d a b) fit x has = both x (variables_of a) (variables_of b) (occurring_below a fit.0 x) (occurring_below b fit.1 x) has
  occurring_below (unless_within d a b) fit x has = both x (variables_of a) (variables_of b) (occurring_below a fit.0 x) (occurring_below b fit.1 x) has
  occurring_below (release_within d a b) fit x has = both x (variables_of a) (variables_of b) (occurring_below a fit.0 x) (occurring_below b fit.1 x) has
