-- What an operator that waits gives at a position, from what it gives at the next.
use Rattle.std.proofs.Common.{◌≡◌, ℕ, ◌+◌, ◌<◌, ◌≤◌, ◌↔◌, ◌⊎◌, inl, inr, refl, sym, subst, arith, ⊎_elim}
use Rattle.std.specs.Prelude.{IsTrue, max}
use Rattle.std.proofs.lemmas.Bool.{cases_eq, false≢true}
use Rattle.temporal_logic.specs.Truth.{Ever, Between, SomeBetween, HoldsUntil, Releases, HoldsUntilBefore, ReleasesBefore}
use Rattle.temporal_logic.proofs.Equivalences.{iff_sym, or_iff}
use Rattle.temporal_logic.proofs.Search.{Repeats, ever_within, until_within_turn, releases_within_turn, repeats_or, repeats_ever, repeats_until, repeats_releases}
use Rattle.lasso_checker.specs.declared.operators.Waiting.{Waiting}
use Rattle.lasso_checker.specs.declared.operators.Waiting.TheVariants.{Until, Unless, Release}
use Rattle.lasso_checker.specs.Operators.{Steps, starts, Waits, WaitsBefore}

module _ (P Q : ℕ → Type 0) where
  -- ---- one step of each
  until_unfolds : (i : ℕ) → (Q i ⊎ (P i × HoldsUntil P Q (i + 1))) ↔ HoldsUntil P Q i
  until_unfolds i = (⊎_elim now later, back)
    where
      now : Q i → HoldsUntil P Q i
      now q = (i, omega arith, (q, λ k l s. absurd (omega arith)))

      later : P i × HoldsUntil P Q (i + 1) → HoldsUntil P Q i
      later h =
          (h.1.0, omega (arith, h.1.1), (h.1.2.0, λ k l s. ⊎_elim (λ e. subst P e h.0) (λ n. h.1.2.1 k (omega arith) s) (cases_eq i k)))

      back : HoldsUntil P Q i → Q i ⊎ (P i × HoldsUntil P Q (i + 1))
      back w =
          ⊎_elim (λ e. inl (subst Q (sym e) w.2.0))
          (λ n. inr (w.2.1 i (omega arith) (omega (arith, w.1)), (w.0, omega (arith, w.1), (w.2.0, λ k l s. w.2.1 k (omega arith) s))))
          (cases_eq i w.0)

  until_before_unfolds : (n i : ℕ) → i < n → (Q i ⊎ (P i × HoldsUntilBefore n P Q (i + 1))) ↔ HoldsUntilBefore n P Q i
  until_before_unfolds n i l = (⊎_elim now later, back)
    where
      now : Q i → HoldsUntilBefore n P Q i
      now q = (i, omega arith, l, (q, λ k o s. absurd (omega arith)))

      later : P i × HoldsUntilBefore n P Q (i + 1) → HoldsUntilBefore n P Q i
      later h =
          (h.1.0, omega (arith, h.1.1), h.1.2, (h.1.3.0, λ k o s. ⊎_elim (λ e. subst P e h.0) (λ d. h.1.3.1 k (omega arith) s) (cases_eq i k)))

      back : HoldsUntilBefore n P Q i → Q i ⊎ (P i × HoldsUntilBefore n P Q (i + 1))
      back w =
          ⊎_elim (λ e. inl (subst Q (sym e) w.3.0))
          (λ d. inr (w.3.1 i (omega arith) (omega (arith, w.1)), (w.0, omega (arith, w.1), w.2, (w.3.0, λ k o s. w.3.1 k (omega arith) s))))
          (cases_eq i w.0)

  ever_from : (i : ℕ) → P i → Ever P (i + 1) → Ever P i
  ever_from i h f j o = ⊎_elim (λ e. subst P e h) (λ n. f j (omega arith)) (cases_eq i j)

  between_from : (n i : ℕ) → P i → Between P (i + 1) n → Between P i n
  between_from n i h f j o s = ⊎_elim (λ e. subst P e h) (λ d. f j (omega arith) s) (cases_eq i j)

  unless_unfolds : (i : ℕ) → (Q i ⊎ (P i × (HoldsUntil P Q (i + 1) ⊎ Ever P (i + 1)))) ↔ (HoldsUntil P Q i ⊎ Ever P i)
  unless_unfolds i = (⊎_elim (λ q. inl (u.0 (inl q))) later, ⊎_elim back (λ f. inr (f i (omega arith), inr (λ j o. f j (omega arith)))))
    where
      u : (Q i ⊎ (P i × HoldsUntil P Q (i + 1))) ↔ HoldsUntil P Q i
      u = until_unfolds i

      later : P i × (HoldsUntil P Q (i + 1) ⊎ Ever P (i + 1)) → HoldsUntil P Q i ⊎ Ever P i
      later h = ⊎_elim (λ w. inl (u.0 (inr (h.0, w)))) (λ f. inr (ever_from i h.0 f)) h.1

      back : HoldsUntil P Q i → Q i ⊎ (P i × (HoldsUntil P Q (i + 1) ⊎ Ever P (i + 1)))
      back w = ⊎_elim inl (λ h. inr (h.0, inl h.1)) (u.1 w)

  unless_before_unfolds : (n i : ℕ) → i < n → (Q i ⊎ (P i × (HoldsUntilBefore n P Q (i + 1) ⊎ Between P (i + 1) n))) ↔ (HoldsUntilBefore n P Q i ⊎ Between P i n)
  unless_before_unfolds n i l = (⊎_elim (λ q. inl (u.0 (inl q))) later, ⊎_elim back (λ f. inr (f i (omega arith) l, inr (λ j o s. f j (omega arith) s))))
    where
      u : (Q i ⊎ (P i × HoldsUntilBefore n P Q (i + 1))) ↔ HoldsUntilBefore n P Q i
      u = until_before_unfolds n i l

      later : P i × (HoldsUntilBefore n P Q (i + 1) ⊎ Between P (i + 1) n) → HoldsUntilBefore n P Q i ⊎ Between P i n
      later h = ⊎_elim (λ w. inl (u.0 (inr (h.0, w)))) (λ f. inr (between_from n i h.0 f)) h.1

      back : HoldsUntilBefore n P Q i → Q i ⊎ (P i × (HoldsUntilBefore n P Q (i + 1) ⊎ Between P (i + 1) n))
      back w = ⊎_elim inl (λ h. inr (h.0, inl h.1)) (u.1 w)

  -- what a release asks at one position
  abbrev Released : ℕ → ℕ → Type 0
  Released i j = Q j ⊎ SomeBetween P i j

  first_released : (i : ℕ) → Released i i → Q i
  first_released i = ⊎_elim (λ q. q) (λ w. absurd (omega (arith, w.1, w.2)))

  released_from : (i j : ℕ) → i < j → P i → Released i j
  released_from i j l a = inr (i, omega arith, l, a)

  released_before : (i j : ℕ) → Released (i + 1) j → Released i j
  released_before i j = ⊎_elim inl (λ w. inr (w.0, omega (arith, w.1), w.2, w.3))

  released_later : (i j : ℕ) → ¬ (P i) → Released i j → Released (i + 1) j
  released_later i j n =
      ⊎_elim inl (λ w. ⊎_elim (λ e. absurd (n (subst P (sym e) w.3))) (λ d. inr (w.0, omega (arith, w.1, d), w.2, w.3)) (cases_eq i w.0))

  module _ (decided : (i : ℕ) → Dec (P i)) where
    releases_unfolds : (i : ℕ) → (Q i × (P i ⊎ Releases P Q (i + 1))) ↔ Releases P Q i
    releases_unfolds i = (forth, λ f. (first_released i (f i (omega arith)), back (decided i) f))
      where
        forth : Q i × (P i ⊎ Releases P Q (i + 1)) → Releases P Q i
        forth h j o =
            ⊎_elim (λ e. inl (subst Q e h.0)) (λ n. ⊎_elim (released_from i j (omega arith)) (λ f. released_before i j (f j (omega arith))) h.1) (cases_eq i j)

        back : Dec (P i) → Releases P Q i → P i ⊎ Releases P Q (i + 1)
        back (yes a) f = inl a
        back (no n) f = inr (λ j o. released_later i j n (f j (omega arith)))

    releases_before_unfolds : (n i : ℕ) → i < n → (Q i × (P i ⊎ ReleasesBefore n P Q (i + 1))) ↔ ReleasesBefore n P Q i
    releases_before_unfolds n i l = (forth, λ f. (first_released i (f i (omega arith) l), back (decided i) f))
      where
        forth : Q i × (P i ⊎ ReleasesBefore n P Q (i + 1)) → ReleasesBefore n P Q i
        forth h j o s =
            ⊎_elim (λ e. inl (subst Q e h.0)) (λ d. ⊎_elim (released_from i j (omega arith)) (λ f. released_before i j (f j (omega arith) s)) h.1) (cases_eq i j)

        back : Dec (P i) → ReleasesBefore n P Q i → P i ⊎ ReleasesBefore n P Q (i + 1)
        back (yes a) f = inl a
        back (no m) f = inr (λ j o s. released_later i j m (f j (omega arith) s))

    -- ---- all of them
    pub waits_unfolds : (waiting : Waiting) (i : ℕ) → Steps waiting (P i) (Q i) (Waits waiting P Q (i + 1)) ↔ Waits waiting P Q i
    waits_unfolds Until i = until_unfolds i
    waits_unfolds Unless i = unless_unfolds i
    waits_unfolds Release i = releases_unfolds i

    pub waits_before_unfolds : (waiting : Waiting) (n i : ℕ) → i < n → Steps waiting (P i) (Q i) (WaitsBefore waiting n P Q (i + 1)) ↔ WaitsBefore waiting n P Q i
    waits_before_unfolds Until n i l = until_before_unfolds n i l
    waits_before_unfolds Unless n i l = unless_before_unfolds n i l
    waits_before_unfolds Release n i l = releases_before_unfolds n i l

  -- where no position is left
  pub starts_waiting : (waiting : Waiting) (n i : ℕ) → n ≤ i → IsTrue (starts waiting) ↔ WaitsBefore waiting n P Q i
  starts_waiting Until n i l = (λ t. absurd (false≢true t), λ w. absurd (omega (arith, w.1, w.2)))
  starts_waiting Unless n i l = (λ t. inr (λ k o s. absurd (omega arith)), λ w. refl)
  starts_waiting Release n i l = (λ t j o s. absurd (omega arith), λ w. refl)

  -- ---- over a loop
  module _ (p c : ℕ) (turns : 0 < c) (r : Repeats P p c) (s : Repeats Q p c) where
    waits_within_turn : (waiting : Waiting) (i : ℕ) → Waits waiting P Q i ↔ WaitsBefore waiting (max i p + c) P Q i
    waits_within_turn Until i = until_within_turn p c turns P Q s i
    waits_within_turn Unless i = or_iff (until_within_turn p c turns P Q s i) (ever_within p c turns P r i)
    waits_within_turn Release i = releases_within_turn p c turns P Q s i

    pub repeats_waits : (waiting : Waiting) → Repeats (Waits waiting P Q) p c
    repeats_waits Until = repeats_until p c turns P Q r s
    repeats_waits Unless =
        repeats_or p c turns (HoldsUntil P Q) (Ever P) (repeats_until p c turns P Q r s) (repeats_ever p c turns P r)
    repeats_waits Release = repeats_releases p c turns P Q r s

    -- a pass over the loop is exact where the loop begins
    pub one_turn : (waiting : Waiting) (i : ℕ) → i ≡ p → WaitsBefore waiting (p + c) P Q i ↔ Waits waiting P Q p
    one_turn waiting i e =
        let m : max p p + c ≡ p + c = omega arith in
        subst (λ n. WaitsBefore waiting (p + c) P Q n ↔ Waits waiting P Q p) (sym e) (subst (λ n. WaitsBefore waiting n P Q p ↔ Waits waiting P Q p) m (iff_sym (waits_within_turn waiting p)))
