-- On a trace that ends in a loop, truth repeats with the loop, and is decided at each position.
use Rattle.std.proofs.Common.{◌≡◌, ℕ, suc, ◌+◌, ◌<◌, ◌⊎◌, sym, subst}
use Rattle.std.specs.Prelude.{max}
use Rattle.std.specs.Int.{bit_at}
use Rattle.temporal_logic.specs.Ltl.{Relation, is_same, is_other, is_below, is_at_most, is_above, is_at_least, Ltl, truth, falsity, flag, compares, among, relates, neg, conj, disj, implies, iff, entails, next, eventually, always, until, unless, release, eventually_within, always_within, until_within, unless_within, release_within}
use Rattle.temporal_logic.specs.Truth.{Trace, Compares, Truth, Sometime, Ever, Between, SomeBetween, HoldsUntil, Releases, HoldsUntilBefore, ReleasesBefore}
use Rattle.temporal_logic.specs.Traces.{Loops}
use Rattle.temporal_logic.proofs.Equivalences.{iff_sym}
use Rattle.temporal_logic.proofs.Search.{dec_by, dec_not, dec_and, dec_or, dec_to, dec_iff, dec_le, dec_eq, dec_some_between, dec_between, Repeats, some_within, ever_within, until_within_turn, releases_within_turn, repeats_not, repeats_and, repeats_or, repeats_to, repeats_iff, repeats_next, repeats_sometime, repeats_ever, repeats_until, repeats_releases, repeats_some_within, repeats_each_within, repeats_until_within, repeats_releases_within}

pub dec_stands : (r : Relation) (a b : ℕ) → Dec (Compares r a b)
dec_stands is_same a b = dec_eq a b
dec_stands is_other a b = dec_not (dec_eq a b)
dec_stands is_below a b = dec_le (suc a) b
dec_stands is_at_most a b = dec_le a b
dec_stands is_above a b = dec_le (suc b) a
dec_stands is_at_least a b = dec_le b a

-- ---- searches before a bound
pub dec_until_before : (P Q : ℕ → Type 0) → ((k : ℕ) → Dec (P k)) → ((k : ℕ) → Dec (Q k)) → (n i : ℕ) → Dec (HoldsUntilBefore n P Q i)
dec_until_before P Q d e n i = dec_some_between (λ j. Q j × Between P i j) (λ j. dec_and (e j) (dec_between P d i j)) i n

pub dec_releases_before : (P Q : ℕ → Type 0) → ((k : ℕ) → Dec (P k)) → ((k : ℕ) → Dec (Q k)) → (n i : ℕ) → Dec (ReleasesBefore n P Q i)
dec_releases_before P Q d e n i = dec_between (λ j. Q j ⊎ SomeBetween P i j) (λ j. dec_or (e j) (dec_some_between P d i j)) i n

-- ---- searches without one
module _ (p c : ℕ) (turns : 0 < c) where
  pub dec_sometime : (P : ℕ → Type 0) → Repeats P p c → ((k : ℕ) → Dec (P k)) → (i : ℕ) → Dec (Sometime P i)
  dec_sometime P r d i = dec_by (iff_sym (some_within p c turns P r i)) (dec_some_between P d i (max i p + c))

  pub dec_ever : (P : ℕ → Type 0) → Repeats P p c → ((k : ℕ) → Dec (P k)) → (i : ℕ) → Dec (Ever P i)
  dec_ever P r d i = dec_by (iff_sym (ever_within p c turns P r i)) (dec_between P d i (max i p + c))

  pub dec_until : (P Q : ℕ → Type 0) → Repeats Q p c → ((k : ℕ) → Dec (P k)) → ((k : ℕ) → Dec (Q k)) → (i : ℕ) → Dec (HoldsUntil P Q i)
  dec_until P Q s d e i = dec_by (iff_sym (until_within_turn p c turns P Q s i)) (dec_until_before P Q d e (max i p + c) i)

  pub dec_releases : (P Q : ℕ → Type 0) → Repeats Q p c → ((k : ℕ) → Dec (P k)) → ((k : ℕ) → Dec (Q k)) → (i : ℕ) → Dec (Releases P Q i)
  dec_releases P Q s d e i = dec_by (iff_sym (releases_within_turn p c turns P Q s i)) (dec_releases_before P Q d e (max i p + c) i)

module _ (t : Trace) (p c : ℕ) (loops : Loops t p c) where
  -- a fact about the values at a position repeats
  repeats_value : (P : ℕ → Type 0) (x : ℕ) → Repeats (λ i. P (t i x)) p c
  repeats_value P x = record {
    ahead = λ i l h. subst P (sym (loops.same i x l)) h;
    back = λ i l h. subst P (loops.same i x l) h;
  }

  repeats_values : (P : ℕ → ℕ → Type 0) (x y : ℕ) → Repeats (λ i. P (t i x) (t i y)) p c
  repeats_values P x y = record {
    ahead = λ i l h.
        subst (λ v. P v (t (i + c) y)) (sym (loops.same i x l)) (subst (λ w. P (t i x) w) (sym (loops.same i y l)) h);
    back = λ i l h. subst (λ v. P v (t i y)) (loops.same i x l) (subst (λ w. P (t (i + c) x) w) (loops.same i y l) h);
  }

  pub truth_repeats : (f : Ltl) → Repeats (Truth t f) p c
  truth_repeats truth = record { ahead = λ i l h. h; back = λ i l h. h }
  truth_repeats falsity = record { ahead = λ i l h. h; back = λ i l h. h }
  truth_repeats (flag x) = repeats_value (λ v. v ≡ 1) x
  truth_repeats (compares x r v) = repeats_value (λ w. Compares r w v) x
  truth_repeats (among x set) = repeats_value (λ v. bit_at set v ≡ 1) x
  truth_repeats (relates x r y) = repeats_values (Compares r) x y
  truth_repeats (neg a) = repeats_not p c loops.turns (Truth t a) (truth_repeats a)
  truth_repeats (conj a b) = repeats_and p c loops.turns (Truth t a) (Truth t b) (truth_repeats a) (truth_repeats b)
  truth_repeats (disj a b) = repeats_or p c loops.turns (Truth t a) (Truth t b) (truth_repeats a) (truth_repeats b)
  truth_repeats (implies a b) = repeats_to p c loops.turns (Truth t a) (Truth t b) (truth_repeats a) (truth_repeats b)
  truth_repeats (iff a b) = repeats_iff p c loops.turns (Truth t a) (Truth t b) (truth_repeats a) (truth_repeats b)
  truth_repeats (entails a b) =
      repeats_ever p c loops.turns (λ j. Truth t a j → Truth t b j) (repeats_to p c loops.turns (Truth t a) (Truth t b) (truth_repeats a) (truth_repeats b))
  truth_repeats (next a) = repeats_next p c loops.turns (Truth t a) (truth_repeats a)
  truth_repeats (eventually a) = repeats_sometime p c loops.turns (Truth t a) (truth_repeats a)
  truth_repeats (always a) = repeats_ever p c loops.turns (Truth t a) (truth_repeats a)
  truth_repeats (until a b) = repeats_until p c loops.turns (Truth t a) (Truth t b) (truth_repeats a) (truth_repeats b)
  truth_repeats (unless a b) =
      repeats_or p c loops.turns (HoldsUntil (Truth t a) (Truth t b)) (Ever (Truth t a)) (repeats_until p c loops.turns (Truth t a) (Truth t b) (truth_repeats a) (truth_repeats b)) (repeats_ever p c loops.turns (Truth t a) (truth_repeats a))
  truth_repeats (release a b) = repeats_releases p c loops.turns (Truth t a) (Truth t b) (truth_repeats a) (truth_repeats b)
  truth_repeats (eventually_within d a) = repeats_some_within p c loops.turns (Truth t a) d (truth_repeats a)
  truth_repeats (always_within d a) = repeats_each_within p c loops.turns (Truth t a) d (truth_repeats a)
  truth_repeats (until_within d a b) = repeats_until_within p c loops.turns (Truth t a) (Truth t b) d (truth_repeats a) (truth_repeats b)
  truth_repeats (unless_within d a b) =
      repeats_or p c loops.turns (λ i. HoldsUntilBefore (i + d + 1) (Truth t a) (Truth t b) i) (λ i. Between (Truth t a) i (i + d + 1)) (repeats_until_within p c loops.turns (Truth t a) (Truth t b) d (truth_repeats a) (truth_repeats b)) (repeats_each_within p c loops.turns (Truth t a) d (truth_repeats a))
  truth_repeats (release_within d a b) = repeats_releases_within p c loops.turns (Truth t a) (Truth t b) d (truth_repeats a) (truth_repeats b)

  pub truth_decided : (f : Ltl) (i : ℕ) → Dec (Truth t f i)
  truth_decided truth i = yes tt
  truth_decided falsity i = no (λ h. h)
  truth_decided (flag x) i = dec_eq (t i x) 1
  truth_decided (compares x r v) i = dec_stands r (t i x) v
  truth_decided (among x set) i = dec_eq (bit_at set (t i x)) 1
  truth_decided (relates x r y) i = dec_stands r (t i x) (t i y)
  truth_decided (neg a) i = dec_not (truth_decided a i)
  truth_decided (conj a b) i = dec_and (truth_decided a i) (truth_decided b i)
  truth_decided (disj a b) i = dec_or (truth_decided a i) (truth_decided b i)
  truth_decided (implies a b) i = dec_to (truth_decided a i) (truth_decided b i)
  truth_decided (iff a b) i = dec_iff (truth_decided a i) (truth_decided b i)
  truth_decided (entails a b) i =
      dec_ever p c loops.turns (λ j. Truth t a j → Truth t b j) (repeats_to p c loops.turns (Truth t a) (Truth t b) (truth_repeats a) (truth_repeats b)) (λ j. dec_to (truth_decided a j) (truth_decided b j)) i
  truth_decided (next a) i = truth_decided a (i + 1)
  truth_decided (eventually a) i = dec_sometime p c loops.turns (Truth t a) (truth_repeats a) (truth_decided a) i
  truth_decided (always a) i = dec_ever p c loops.turns (Truth t a) (truth_repeats a) (truth_decided a) i
  truth_decided (until a b) i = dec_until p c loops.turns (Truth t a) (Truth t b) (truth_repeats b) (truth_decided a) (truth_decided b) i
  truth_decided (unless a b) i =
      dec_or (dec_until p c loops.turns (Truth t a) (Truth t b) (truth_repeats b) (truth_decided a) (truth_decided b) i) (dec_ever p c loops.turns (Truth t a) (truth_repeats a) (truth_decided a) i)
  truth_decided (release a b) i = dec_releases p c loops.turns (Truth t a) (Truth t b) (truth_repeats b) (truth_decided a) (truth_decided b) i
  truth_decided (eventually_within d a) i = dec_some_between (Truth t a) (truth_decided a) i (i + d + 1)
  truth_decided (always_within d a) i = dec_between (Truth t a) (truth_decided a) i (i + d + 1)
  truth_decided (until_within d a b) i = dec_until_before (Truth t a) (Truth t b) (truth_decided a) (truth_decided b) (i + d + 1) i
  truth_decided (unless_within d a b) i =
      dec_or (dec_until_before (Truth t a) (Truth t b) (truth_decided a) (truth_decided b) (i + d + 1) i) (dec_between (Truth t a) (truth_decided a) i (i + d + 1))
  truth_decided (release_within d a b) i = dec_releases_before (Truth t a) (Truth t b) (truth_decided a) (truth_decided b) (i + d + 1) i
