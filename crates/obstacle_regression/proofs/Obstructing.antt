-- On a trace that has the rules, a derived core makes the first one true.
use Rattle.std.proofs.Common.{◌≡◌, ℕ, ◌⊎◌, ◌↔◌, inl, inr, ⊎_elim, Bool, true, false, IsTrue, true≢false, List, [], map, get_or, refl, sym, subst, arith}
use Rattle.std.specs.Prelude.{All, Contains, ◌&&◌, ◌||◌, ◌==◌, bit_and}
use Rattle.std.specs.Int.{bit_at}
use Rattle.std.proofs.lemmas.List.Elements.{All-nil, All-cons, All-contains, All-map}
use Rattle.state_space.specs.Ranges.{RangeForm, size_of, IsGoodRange}
use Rattle.state_space.proofs.BitSets.{meet_has}
use Rattle.temporal_logic.specs.Ltl.{Ltl, truth, falsity, flag, compares, among, relates, neg, conj, disj, implies, iff, entails, next, eventually, always, until, unless, release, eventually_within, always_within, until_within, unless_within, release_within}
use Rattle.temporal_logic.specs.Truth.{Trace, Truth, Meets}
use Rattle.temporal_logic.specs.Traces.{IsPeriodic}
use Rattle.temporal_logic.specs.Fits.{Fits}
use Rattle.bound_unfolding.specs.CoreForm.{CoreForm, lit, CoreTruth}
use Rattle.bound_unfolding.specs.CoreTree.{core_tree, Signed}
use Rattle.bound_unfolding.proofs.CoreTruths.{core_truth}
use Rattle.formula_table.specs.Closures.{is_same}
use Rattle.formula_table.proofs.Members.{same_eq}
use Rattle.obstacle_regression.specs.Replacements.{is_inside, gives}
use Rattle.obstacle_regression.specs.Candidates.{RuleCores}
use Rattle.obstacle_regression.specs.Derivations.{IsDerived, is_first, is_given}
use Rattle.obstacle_regression.specs.Regressions.{RuleForm, rule_formula, rule_from, rules_among, rule_cores}
use Rattle.obstacle_regression.proofs.Monotone.{replaced_true}
use Rattle.obstacle_regression.proofs.Halves.{all_mapped}
use Rattle.obstacle_regression.proofs.Deriving.{All-flat_map}

-- ---- a match
one_of : (a b : Bool) → IsTrue (a || b) → IsTrue a ⊎ IsTrue b
one_of true b h = inl h
one_of false b h = inr h

two_of : (a b : Bool) → IsTrue (a && b) → IsTrue a × IsTrue b
two_of true b h = (refl, h)
two_of false b h = absurd (true≢false (sym h))

eq_of : (x y : ℕ) → IsTrue (x == y) → x ≡ y
eq_of x y h = grind arith

inside_true : (t : Trace) (c l : CoreForm) → IsTrue (is_inside c l) → (i : ℕ) → CoreTruth t c i → CoreTruth t l i
inside_true t (lit x s) (lit y u) h i v =
    let parts = two_of (x == y) (bit_and s u == s) h in
    let here : bit_at s (t i y) ≡ 1 = subst (λ z. bit_at s (t i z) ≡ 1) (eq_of x y parts.0) v in
    let met : bit_at (bit_and s u) (t i y) ≡ 1 = subst (λ z. bit_at z (t i y) ≡ 1) (sym (eq_of (bit_and s u) s parts.1)) here in
    ((meet_has s u (t i y)).0 met).1
inside_true t _ _ h i v = absurd (true≢false (sym h))

given_true : (t : Trace) (c l : CoreForm) → IsTrue (gives c l) → (i : ℕ) → CoreTruth t c i → CoreTruth t l i
given_true t c l h i v =
    ⊎_elim (λ s. subst (λ z. CoreTruth t z i) (same_eq c l s) v) (λ s. inside_true t c l s i v) (one_of (is_same c l) (is_inside c l) h)

-- ---- the rules among formulas
module _ (P : Ltl → Type 0) where
  abbrev Q : RuleForm → Type 0
  Q r = P (rule_formula r)

  from_one : (f : Ltl) → P f → All Q (rule_from f)
  from_one (entails a b) h = All-cons Q (record { cause = a; effect = b }) [] h (All-nil Q)
  from_one truth h = All-nil Q
  from_one falsity h = All-nil Q
  from_one (flag x) h = All-nil Q
  from_one (compares x r v) h = All-nil Q
  from_one (among x s) h = All-nil Q
  from_one (relates x r y) h = All-nil Q
  from_one (neg a) h = All-nil Q
  from_one (conj a b) h = All-nil Q
  from_one (disj a b) h = All-nil Q
  from_one (implies a b) h = All-nil Q
  from_one (iff a b) h = All-nil Q
  from_one (next a) h = All-nil Q
  from_one (eventually a) h = All-nil Q
  from_one (always a) h = All-nil Q
  from_one (until a b) h = All-nil Q
  from_one (unless a b) h = All-nil Q
  from_one (release a b) h = All-nil Q
  from_one (eventually_within d a) h = All-nil Q
  from_one (always_within d a) h = All-nil Q
  from_one (until_within d a b) h = All-nil Q
  from_one (unless_within d a b) h = All-nil Q
  from_one (release_within d a b) h = All-nil Q

  pub among_all : (fs : List Ltl) → All P fs → All Q (rules_among fs)
  among_all fs h = All-flat_map Q rule_from fs (λ k e o. from_one (get_or fs k e) (h k e o))

-- ---- what is derived
derived_true : (rules : List RuleCores) (first : CoreForm) (t : Trace)
    → ((r : RuleCores) → Contains rules r → (i : ℕ) → CoreTruth t r.cause i → CoreTruth t r.effect i)
    → (c : CoreForm) → IsDerived rules first c → CoreTruth t c 0 → CoreTruth t first 0
derived_true rules first t keeps c (is_first) h = h
derived_true rules first t keeps c (is_given b l r before inside has given) h =
    derived_true rules first t keeps b before (replaced_true t l r.cause (λ i v. given_true t r.effect l given i (keeps r has i v)) b 0 h)

module _ (ranges : List RangeForm) (good : All IsGoodRange ranges) (t : Trace) (per : IsPeriodic (map size_of ranges) t) where
  abbrev core : Bool → Ltl → CoreForm
  core s f = core_tree (map size_of ranges) s f

  cores_true : (f : Ltl) → Fits ranges f → (s : Bool) (i : ℕ) → CoreTruth t (core s f) i ↔ Signed s (Truth t f i)
  cores_true f fits s i = core_truth t per.start per.turn per.loops ranges good per.fits f fits s i

  -- a rule that the trace has makes its effect true where its cause is
  rule_keeps : (r : RuleForm) → Fits ranges (rule_formula r) → Truth t (rule_formula r) 0 → (i : ℕ) → CoreTruth t (core true r.cause) i → CoreTruth t (core true r.effect) i
  rule_keeps r fits has i v = (cores_true r.effect fits.1 true i).1 (has i (omega arith) ((cores_true r.cause fits.0 true i).0 v))

  rules_keep : (rules : List RuleForm) → All (λ r. Fits ranges (rule_formula r)) rules → Meets t (map rule_formula rules)
      → All (λ r. (i : ℕ) → CoreTruth t r.cause i → CoreTruth t r.effect i) (map (rule_cores (map size_of ranges)) rules)
  rules_keep rules fit has =
      All-map (λ r. (i : ℕ) → CoreTruth t r.cause i → CoreTruth t r.effect i) (rule_cores (map size_of ranges)) rules
      (λ k e o. rule_keeps (get_or rules k e) (fit k e o) (all_mapped (λ f. Truth t f 0) rule_formula rules has k e o))

  pub derived_obstructs : (goal : Ltl) → Fits ranges goal → (rules : List RuleForm) → All (λ r. Fits ranges (rule_formula r)) rules → Meets t (map rule_formula rules)
      → (c : CoreForm) → IsDerived (map (rule_cores (map size_of ranges)) rules) (core false goal) c → CoreTruth t c 0 → ¬ (Truth t goal 0)
  derived_obstructs goal fits rules fit has c derived h =
      let cores = map (rule_cores (map size_of ranges)) rules in
      (cores_true goal fits false 0).0 (derived_true cores (core false goal) t (λ r within. All-contains (λ q. (i : ℕ) → CoreTruth t q.cause i → CoreTruth t q.effect i) cores r (rules_keep rules fit has) within) c derived h)
