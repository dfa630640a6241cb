-- What is true of a pattern over the trace of its placeholders is true of its instance, and such a trace there is.
use Rattle.std.proofs.Common.{◌≡◌, ◌↔◌, ℕ, zero, suc, ◌+◌, ◌<◌, List, [], ◌∷◌, ◌++◌, length, get_or, map, refl, sym, subst, arith}
use Rattle.std.specs.Prelude.{replicate, All}
use Rattle.std.proofs.lemmas.List.{length-map, get_or-map, length-replicate, get_or-replicate}
use Rattle.std.proofs.lemmas.List.Elements.{All-append, All-cons, All-nil}
use Rattle.temporal_logic.specs.Ltl.{Ltl, truth, falsity, flag, compares, among, relates, neg, conj, disj, implies, iff, entails, next, eventually, always, until, unless, release, eventually_within, always_within, until_within, unless_within, release_within}
use Rattle.temporal_logic.specs.Truth.{Trace, Truth, Meets}
use Rattle.temporal_logic.specs.Traces.{Loops, TraceFits, IsPeriodic}
use Rattle.temporal_logic.proofs.Decided.{truth_decided, truth_repeats}
use Rattle.temporal_logic.proofs.Equivalences.{iff_refl, not_iff, and_iff, or_iff, to_iff, iff_iff, sometime_iff, ever_iff, between_iff, some_between_iff, until_iff, releases_iff, until_before_iff, releases_before_iff}
use Rattle.pattern_library.specs.Patterns.{PatternForm, broken_by, pattern_list}
use Rattle.pattern_library.specs.Instances.{instance_of, IsOverPlaceholders, IsPattern, Matches, placeholder_sizes, Shows}

-- ---- lists
pub all_left : {X : Type 0} (P : X → Type 0) (xs ys : List X) → All P (xs ++ ys) → All P xs
all_left P [] ys h k d l = absurd (omega arith)
all_left P (x ∷ xs) ys h zero d l = h zero d (omega arith)
all_left P (x ∷ xs) ys h (suc k) d l = all_left P xs ys (λ j e o. h (suc j) e (omega arith)) k d (omega arith)

pub all_right : {X : Type 0} (P : X → Type 0) (xs ys : List X) → All P (xs ++ ys) → All P ys
all_right P [] ys h = h
all_right P (x ∷ xs) ys h = all_right P xs ys (λ j e o. h (suc j) e (omega arith))

pub all_mapped : {X Y : Type 0} (P : Y → Type 0) (f : X → Y) (xs : List X) → All P (map f xs) → All (λ x. P (f x)) xs
all_mapped P f xs h k d l =
    subst P (get_or-map f xs k d (f d) l) (h k (f d) (omega (arith, l, length-map xs f)))

-- ---- substitution
module _ (formulas : List Ltl) (u t : Trace) (shows : Shows formulas u t) where
  abbrev inst : Ltl → Ltl
  inst f = instance_of formulas f

  abbrev Over : Ltl → Type 0
  Over f = IsOverPlaceholders (length formulas) f

  pub instance_truth : (f : Ltl) → Over f → (i : ℕ) → Truth u f i ↔ Truth t (inst f) i
  instance_truth truth o i = iff_refl
  instance_truth falsity o i = iff_refl
  instance_truth (flag k) o i = shows i k o
  instance_truth (compares x r v) o i = absurd o
  instance_truth (among x set) o i = absurd o
  instance_truth (relates x r y) o i = absurd o
  instance_truth (neg a) o i = not_iff (instance_truth a o i)
  instance_truth (conj a b) o i = and_iff (instance_truth a o.0 i) (instance_truth b o.1 i)
  instance_truth (disj a b) o i = or_iff (instance_truth a o.0 i) (instance_truth b o.1 i)
  instance_truth (implies a b) o i = to_iff (instance_truth a o.0 i) (instance_truth b o.1 i)
  instance_truth (iff a b) o i = iff_iff (instance_truth a o.0 i) (instance_truth b o.1 i)
  instance_truth (entails a b) o i =
      ever_iff (λ j. Truth u a j → Truth u b j) (λ j. Truth t (inst a) j → Truth t (inst b) j) (λ j. to_iff (instance_truth a o.0 j) (instance_truth b o.1 j)) i
  instance_truth (next a) o i = instance_truth a o (i + 1)
  instance_truth (eventually a) o i = sometime_iff (Truth u a) (Truth t (inst a)) (instance_truth a o) i
  instance_truth (always a) o i = ever_iff (Truth u a) (Truth t (inst a)) (instance_truth a o) i
  instance_truth (until a b) o i =
      until_iff (Truth u a) (Truth u b) (Truth t (inst a)) (Truth t (inst b)) (instance_truth a o.0) (instance_truth b o.1) i
  instance_truth (unless a b) o i =
      or_iff (until_iff (Truth u a) (Truth u b) (Truth t (inst a)) (Truth t (inst b)) (instance_truth a o.0) (instance_truth b o.1) i) (ever_iff (Truth u a) (Truth t (inst a)) (instance_truth a o.0) i)
  instance_truth (release a b) o i =
      releases_iff (Truth u a) (Truth u b) (Truth t (inst a)) (Truth t (inst b)) (instance_truth a o.0) (instance_truth b o.1) i
  instance_truth (eventually_within d a) o i = some_between_iff (Truth u a) (Truth t (inst a)) (instance_truth a o) i (i + d + 1)
  instance_truth (always_within d a) o i = between_iff (Truth u a) (Truth t (inst a)) (instance_truth a o) i (i + d + 1)
  instance_truth (until_within d a b) o i =
      until_before_iff (Truth u a) (Truth u b) (Truth t (inst a)) (Truth t (inst b)) (instance_truth a o.0) (instance_truth b o.1) i (i + d + 1)
  instance_truth (unless_within d a b) o i =
      or_iff (until_before_iff (Truth u a) (Truth u b) (Truth t (inst a)) (Truth t (inst b)) (instance_truth a o.0) (instance_truth b o.1) i (i + d + 1)) (between_iff (Truth u a) (Truth t (inst a)) (instance_truth a o.0) i (i + d + 1))
  instance_truth (release_within d a b) o i =
      releases_before_iff (Truth u a) (Truth u b) (Truth t (inst a)) (Truth t (inst b)) (instance_truth a o.0) (instance_truth b o.1) i (i + d + 1)

  -- where all instances are true, so are the formulas over placeholders
  pub instances_true : (fs : List Ltl) → All Over fs → All (λ f. Truth t f 0) (map inst fs) → All (λ f. Truth u f 0) fs
  instances_true fs over h k d l = (instance_truth (get_or fs k d) (over k d l) 0).1 (all_mapped (λ f. Truth t f 0) inst fs h k d l)

-- ---- the trace of the placeholders
value_of : {A : Type 0} → Dec A → ℕ
value_of (yes a) = 1
value_of (no n) = 0

value_is : {A : Type 0} (d : Dec A) → (value_of d ≡ 1) ↔ A
unfolding value_of
value_is (yes a) = (λ h. a, λ h. refl)
value_is (no n) = (λ h. absurd (omega (arith, h)), λ h. absurd (n h))

value_same : {A B : Type 0} (d : Dec A) (e : Dec B) → A ↔ B → value_of d ≡ value_of e
unfolding value_of
value_same (yes a) (yes b) f = refl
value_same (yes a) (no n) f = absurd (n (f.0 a))
value_same (no n) (yes b) f = absurd (n (f.1 b))
value_same (no n) (no m) f = refl

value_small : {A : Type 0} (d : Dec A) → value_of d < 2
unfolding value_of
value_small (yes a) = omega arith
value_small (no n) = omega arith

module _ (t : Trace) (p c : ℕ) (loops : Loops t p c) (formulas : List Ltl) where
  abbrev shown : Trace
  shown i k = value_of (truth_decided t p c loops (get_or formulas k truth) i)

  shown_shows : Shows formulas shown t
  shown_shows i k l = value_is (truth_decided t p c loops (get_or formulas k truth) i)

  shown_loops : Loops shown p c
  shown_loops = record {
    turns = loops.turns;
    same = λ i k l.
        let f = get_or formulas k truth in
        let r = truth_repeats t p c loops f in
        value_same (truth_decided t p c loops f (i + c)) (truth_decided t p c loops f i) (r.back i l, r.ahead i l);
  }

  abbrev two : ℕ
  two = 2

  shown_fits : TraceFits (replicate (length formulas) two) shown
  shown_fits i k l =
      let n = length formulas in
      let e = get_or-replicate n k two 0 (omega (arith, l, length-replicate n two)) in
      subst (λ s. shown i k < s) (sym e) (value_small (truth_decided t p c loops (get_or formulas k truth) i))

  pub shown_trace : (u : Trace) × IsPeriodic (replicate (length formulas) 2) u × Shows formulas u t
  shown_trace = (shown, record { start = p; turn = c; loops = shown_loops; fits = shown_fits }, shown_shows)

-- ---- a pattern that no trace breaks
module _ (p : PatternForm) (good : IsPattern p) (none : (u : Trace) → IsPeriodic (placeholder_sizes p) u → ¬ (Meets u (pattern_list p))) where
  breaks : (formulas : List Ltl) → length formulas ≡ p.placeholders → (t : Trace) (start turn : ℕ) → Loops t start turn
      → ¬ (Meets t (broken_by (map (instance_of formulas) p.subgoals) (instance_of formulas p.parent)))
  breaks formulas e t start turn loops m =
      let w = shown_trace t start turn loops formulas in
      let periodic : IsPeriodic (placeholder_sizes p) w.0 = subst (λ n. IsPeriodic (replicate n 2) w.0) e w.1 in
      let over : All (IsOverPlaceholders (length formulas)) p.subgoals = subst (λ n. All (IsOverPlaceholders n) p.subgoals) (sym e) good.subgoals in
      let parent : IsOverPlaceholders (length formulas) p.parent = subst (λ n. IsOverPlaceholders n p.parent) (sym e) good.parent in
      let P : Ltl → Type 0 = λ f. Truth t f 0 in
      let Q : Ltl → Type 0 = λ f. Truth w.0 f 0 in
      let subgoals : All Q p.subgoals = instances_true formulas w.0 t w.2 p.subgoals over (all_left P (map (instance_of formulas) p.subgoals) (neg (instance_of formulas p.parent) ∷ []) m) in
      let broken : Q (neg p.parent) = λ h. all_right P (map (instance_of formulas) p.subgoals) (neg (instance_of formulas p.parent) ∷ []) m 0 truth (omega arith) ((instance_truth formulas w.0 t w.2 p.parent parent 0).0 h) in
      none w.0 periodic (All-append Q p.subgoals (neg p.parent ∷ []) subgoals (All-cons Q (neg p.parent) [] broken (All-nil Q)))

  pub instances_refuted : (parent : Ltl) (subgoals formulas : List Ltl) → Matches p parent subgoals formulas → (sizes : List ℕ) (t : Trace) → IsPeriodic sizes t
      → (others : List Ltl) → ¬ (Meets t (broken_by (others ++ subgoals) parent))
  instances_refuted parent subgoals formulas match sizes t per others m =
      let P : Ltl → Type 0 = λ f. Truth t f 0 in
      let both : Meets t (broken_by subgoals parent) = All-append P subgoals (neg parent ∷ []) (all_right P others subgoals (all_left P (others ++ subgoals) (neg parent ∷ []) m)) (all_right P (others ++ subgoals) (neg parent ∷ []) m) in
      let one = subst (λ s. Meets t (broken_by s parent)) match.subgoals_are both in
      let two = subst (λ f. Meets t (broken_by (map (instance_of formulas) p.subgoals) f)) match.parent_is one in
      breaks formulas match.count t per.start per.turn per.loops two
