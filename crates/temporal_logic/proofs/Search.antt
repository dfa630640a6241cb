-- What is decided, what repeats, and how far a search has to go where things repeat.
use Rattle.std.proofs.Common.{◌≡◌, ℕ, zero, suc, ◌+◌, ◌-◌, ◌<◌, ◌≤◌, ◌↔◌, ◌⊎◌, inl, inr, sym, subst, arith, ⊎_elim}
use Rattle.std.specs.Prelude.{max}
use Rattle.std.proofs.lemmas.Bool.{cases_lt, cases_eq}
use Rattle.temporal_logic.specs.Truth.{Sometime, Ever, Between, SomeBetween, HoldsUntil, Releases, HoldsUntilBefore, ReleasesBefore}

-- ---- what is decided
pub dec_by : {A B : Type 0} → A ↔ B → Dec A → Dec B
dec_by e (yes a) = yes (e.0 a)
dec_by e (no n) = no (λ b. n (e.1 b))

pub dec_not : {A : Type 0} → Dec A → Dec (¬ A)
dec_not (yes a) = no (λ n. n a)
dec_not (no n) = yes n

pub dec_and : {A B : Type 0} → Dec A → Dec B → Dec (A × B)
dec_and (yes a) (yes b) = yes (a, b)
dec_and (no n) d = no (λ p. n p.0)
dec_and (yes a) (no n) = no (λ p. n p.1)

pub dec_or : {A B : Type 0} → Dec A → Dec B → Dec (A ⊎ B)
dec_or (yes a) d = yes (inl a)
dec_or (no n) (yes b) = yes (inr b)
dec_or (no n) (no m) = no (⊎_elim n m)

pub dec_to : {A B : Type 0} → Dec A → Dec B → Dec (A → B)
dec_to (no n) d = yes (λ a. absurd (n a))
dec_to (yes a) (yes b) = yes (λ x. b)
dec_to (yes a) (no n) = no (λ f. n (f a))

pub dec_iff : {A B : Type 0} → Dec A → Dec B → Dec (A ↔ B)
dec_iff d e = dec_and (dec_to d e) (dec_to e d)

pub dec_le : (m n : ℕ) → Dec (m ≤ n)
dec_le m n = ⊎_elim (λ l. no (λ h. omega (arith, l, h))) (λ l. yes l) (cases_lt n m)

pub dec_eq : (m n : ℕ) → Dec (m ≡ n)
dec_eq m n = ⊎_elim yes no (cases_eq m n)

-- a search from i up to n
pub dec_some_between : (P : ℕ → Type 0) → ((k : ℕ) → Dec (P k)) → (i n : ℕ) → Dec (SomeBetween P i n)
dec_some_between P d i zero = no (λ w. omega (arith, w.2))
dec_some_between P d i (suc n) = go (dec_some_between P d i n) (dec_and (dec_le i n) (d n))
  where
    go : Dec (SomeBetween P i n) → Dec ((i ≤ n) × P n) → Dec (SomeBetween P i (suc n))
    go (yes w) e = yes (w.0, w.1, omega (arith, w.2), w.3)
    go (no a) (yes p) = yes (n, p.0, omega arith, p.1)
    go (no a) (no b) =
        no (λ w. ⊎_elim (λ l. a (w.0, w.1, l, w.3)) (λ g. let e : w.0 ≡ n = omega (arith, w.2) in b (subst (λ k. i ≤ k) e w.1, subst P e w.3)) (cases_lt w.0 n))

pub dec_between : (P : ℕ → Type 0) → ((k : ℕ) → Dec (P k)) → (i n : ℕ) → Dec (Between P i n)
dec_between P d i zero = yes (λ k l h. absurd (omega (arith, h)))
dec_between P d i (suc n) = go (dec_between P d i n) (dec_to (dec_le i n) (d n))
  where
    go : Dec (Between P i n) → Dec (i ≤ n → P n) → Dec (Between P i (suc n))
    go (no a) e = no (λ f. a (λ k l h. f k l (omega (arith, h))))
    go (yes f) (no b) = no (λ g. b (λ l. g n l (omega arith)))
    go (yes f) (yes g) =
        yes (λ k l h. ⊎_elim (λ s. f k l s) (λ o. let e : n ≡ k = omega (arith, h) in subst P e (g (subst (λ m. i ≤ m) (sym e) l))) (cases_lt k n))

-- ---- what repeats
-- the predicate goes on and comes back by c, from p on
pub record Repeats (P : ℕ → Type 0) (p c : ℕ) : Type 0 where
  pub ahead : (i : ℕ) → p ≤ i → P i → P (i + c)
  pub back : (i : ℕ) → p ≤ i → P (i + c) → P i

pub back_by : (P : ℕ → Type 0) (j c : ℕ) → c ≤ j → P j → P (j - c + c)
back_by P j c l h = let e : j ≡ j - c + c = omega arith in subst P e h

pub on_by : (P : ℕ → Type 0) (j c : ℕ) → c ≤ j → P (j - c + c) → P j
on_by P j c l h = let e : j - c + c ≡ j = omega arith in subst P e h

module _ (R : ℕ → Type 0) (i m c : ℕ) (turns : 0 < c) (after : i ≤ m) where
  shrunk : ((j : ℕ) → m ≤ j → R (j + c) → R j) → (fuel j : ℕ) → j < fuel → i ≤ j → R j → SomeBetween R i (m + c)
  shrunk back zero j l o h = absurd (omega arith)
  shrunk back (suc f) j l o h =
      ⊎_elim (λ s. (j, o, s, h))
      (λ g. shrunk back f (j - c) (omega arith) (omega arith) (back (j - c) (omega arith) (back_by R j c (omega arith) h)))
      (cases_lt j (m + c))

  pub bounded_some : ((j : ℕ) → m ≤ j → R (j + c) → R j) → Sometime R i ↔ SomeBetween R i (m + c)
  bounded_some back = (λ w. shrunk back (suc w.0) w.0 (omega arith) w.1 w.2, λ w. (w.0, w.1, w.3))

  grown : ((j : ℕ) → m ≤ j → R j → R (j + c)) → Between R i (m + c) → (fuel j : ℕ) → j < fuel → i ≤ j → R j
  grown ahead low zero j l o = absurd (omega arith)
  grown ahead low (suc f) j l o =
      ⊎_elim (λ s. low j o s)
      (λ g. on_by R j c (omega arith) (ahead (j - c) (omega arith) (grown ahead low f (j - c) (omega arith) (omega arith))))
      (cases_lt j (m + c))

  pub bounded_ever : ((j : ℕ) → m ≤ j → R j → R (j + c)) → Ever R i ↔ Between R i (m + c)
  bounded_ever ahead = (λ f j o s. f j o, λ low j o. grown ahead low (suc j) j (omega arith) o)

module _ (p c : ℕ) (turns : 0 < c) where
  pub some_within : (P : ℕ → Type 0) → Repeats P p c → (i : ℕ) → Sometime P i ↔ SomeBetween P i (max i p + c)
  some_within P r i = bounded_some P i (max i p) c turns (omega arith) (λ j l. r.back j (omega arith))

  pub ever_within : (P : ℕ → Type 0) → Repeats P p c → (i : ℕ) → Ever P i ↔ Between P i (max i p + c)
  ever_within P r i = bounded_ever P i (max i p) c turns (omega arith) (λ j l. r.ahead j (omega arith))

  pub until_within_turn : (P Q : ℕ → Type 0) → Repeats Q p c → (i : ℕ) → HoldsUntil P Q i ↔ SomeBetween (λ j. Q j × Between P i j) i (max i p + c)
  until_within_turn P Q r i =
      bounded_some (λ j. Q j × Between P i j) i (max i p) c turns (omega arith) (λ j l h. (r.back j (omega arith) h.0, λ k o s. h.1 k o (omega arith)))

  pub releases_within_turn : (P Q : ℕ → Type 0) → Repeats Q p c → (i : ℕ) → Releases P Q i ↔ Between (λ j. Q j ⊎ SomeBetween P i j) i (max i p + c)
  releases_within_turn P Q r i =
      bounded_ever (λ j. Q j ⊎ SomeBetween P i j) i (max i p) c turns (omega arith)
      (λ j l. ⊎_elim (λ q. inl (r.ahead j (omega arith) q)) (λ w. inr (w.0, w.1, omega (arith, w.2), w.3)))

  -- each operator repeats where its parts do
  pub between_ahead : (P : ℕ → Type 0) → Repeats P p c → (i j : ℕ) → p ≤ i → Between P i j → Between P (i + c) (j + c)
  between_ahead P r i j l f k o s = on_by P k c (omega arith) (r.ahead (k - c) (omega arith) (f (k - c) (omega arith) (omega arith)))

  pub between_back : (P : ℕ → Type 0) → Repeats P p c → (i j : ℕ) → p ≤ i → Between P (i + c) (j + c) → Between P i j
  between_back P r i j l f k o s = r.back k (omega arith) (f (k + c) (omega arith) (omega arith))

  pub some_between_ahead : (P : ℕ → Type 0) → Repeats P p c → (i j : ℕ) → p ≤ i → SomeBetween P i j → SomeBetween P (i + c) (j + c)
  some_between_ahead P r i j l w = (w.0 + c, omega (arith, w.1), omega (arith, w.2), r.ahead w.0 (omega (arith, w.1)) w.3)

  pub some_between_back : (P : ℕ → Type 0) → Repeats P p c → (i j : ℕ) → p ≤ i → SomeBetween P (i + c) (j + c) → SomeBetween P i j
  some_between_back P r i j l w =
      (w.0 - c, omega (arith, w.1), omega (arith, w.1, w.2), r.back (w.0 - c) (omega (arith, w.1)) (back_by P w.0 c (omega (arith, w.1)) w.3))

  pub repeats_not : (P : ℕ → Type 0) → Repeats P p c → Repeats (λ i. ¬ (P i)) p c
  repeats_not P r = record { ahead = λ i l n h. n (r.back i l h); back = λ i l n h. n (r.ahead i l h) }

  pub repeats_and : (P Q : ℕ → Type 0) → Repeats P p c → Repeats Q p c → Repeats (λ i. P i × Q i) p c
  repeats_and P Q r s =
      record { ahead = λ i l h. (r.ahead i l h.0, s.ahead i l h.1); back = λ i l h. (r.back i l h.0, s.back i l h.1) }

  pub repeats_or : (P Q : ℕ → Type 0) → Repeats P p c → Repeats Q p c → Repeats (λ i. P i ⊎ Q i) p c
  repeats_or P Q r s =
      record { ahead = λ i l. ⊎_elim (λ h. inl (r.ahead i l h)) (λ h. inr (s.ahead i l h)); back = λ i l. ⊎_elim (λ h. inl (r.back i l h)) (λ h. inr (s.back i l h)) }

  pub repeats_to : (P Q : ℕ → Type 0) → Repeats P p c → Repeats Q p c → Repeats (λ i. P i → Q i) p c
  repeats_to P Q r s =
      record { ahead = λ i l f h. s.ahead i l (f (r.back i l h)); back = λ i l f h. s.back i l (f (r.ahead i l h)) }

  pub repeats_iff : (P Q : ℕ → Type 0) → Repeats P p c → Repeats Q p c → Repeats (λ i. P i ↔ Q i) p c
  repeats_iff P Q r s = record {
    ahead = λ i l e. (λ h. s.ahead i l (e.0 (r.back i l h)), λ h. r.ahead i l (e.1 (s.back i l h)));
    back = λ i l e. (λ h. s.back i l (e.0 (r.ahead i l h)), λ h. r.back i l (e.1 (s.ahead i l h)));
  }

  pub repeats_next : (P : ℕ → Type 0) → Repeats P p c → Repeats (λ i. P (i + 1)) p c
  repeats_next P r = record {
    ahead = λ i l h. let e : i + 1 + c ≡ i + c + 1 = omega arith in subst P e (r.ahead (i + 1) (omega arith) h);
    back = λ i l h. let e : i + c + 1 ≡ i + 1 + c = omega arith in r.back (i + 1) (omega arith) (subst P e h);
  }

  pub repeats_sometime : (P : ℕ → Type 0) → Repeats P p c → Repeats (Sometime P) p c
  repeats_sometime P r = record {
    ahead = λ i l w. (w.0 + c, omega (arith, w.1), r.ahead w.0 (omega (arith, w.1)) w.2);
    back = λ i l w. (w.0 - c, omega (arith, w.1), r.back (w.0 - c) (omega (arith, w.1)) (back_by P w.0 c (omega (arith, w.1)) w.2));
  }

  pub repeats_ever : (P : ℕ → Type 0) → Repeats P p c → Repeats (Ever P) p c
  repeats_ever P r = record {
    ahead = λ i l f j o. on_by P j c (omega arith) (r.ahead (j - c) (omega arith) (f (j - c) (omega arith)));
    back = λ i l f j o. r.back j (omega arith) (f (j + c) (omega arith));
  }

  pub repeats_until : (P Q : ℕ → Type 0) → Repeats P p c → Repeats Q p c → Repeats (HoldsUntil P Q) p c
  repeats_until P Q r s = record {
    ahead = λ i l w. (w.0 + c, omega (arith, w.1), (s.ahead w.0 (omega (arith, w.1)) w.2.0, between_ahead P r i w.0 l w.2.1));
    back = λ i l w. (w.0 - c, omega (arith, w.1), (s.back (w.0 - c) (omega (arith, w.1)) (back_by Q w.0 c (omega (arith, w.1)) w.2.0), between_back P r i (w.0 - c) l (back_by (Between P (i + c)) w.0 c (omega (arith, w.1)) w.2.1)));
  }

  pub repeats_releases : (P Q : ℕ → Type 0) → Repeats P p c → Repeats Q p c → Repeats (Releases P Q) p c
  repeats_releases P Q r s = record {
    ahead = λ i l f j o.
        ⊎_elim (λ q. inl (on_by Q j c (omega arith) (s.ahead (j - c) (omega arith) q))) (λ w. inr (on_by (SomeBetween P (i + c)) j c (omega arith) (some_between_ahead P r i (j - c) l w))) (f (j - c) (omega arith));
    back = λ i l f j o. ⊎_elim (λ q. inl (s.back j (omega arith) q)) (λ w. inr (some_between_back P r i j l w)) (f (j + c) (omega arith));
  }

  -- bounded operators repeat too: the bound goes along with the position
  pub repeats_some_within : (P : ℕ → Type 0) (d : ℕ) → Repeats P p c → Repeats (λ i. SomeBetween P i (i + d + 1)) p c
  repeats_some_within P d r = record {
    ahead = λ i l w. let e : i + d + 1 + c ≡ i + c + d + 1 = omega arith in subst (SomeBetween P (i + c)) e (some_between_ahead P r i (i + d + 1) l w);
    back = λ i l w. let e : i + c + d + 1 ≡ i + d + 1 + c = omega arith in some_between_back P r i (i + d + 1) l (subst (SomeBetween P (i + c)) e w);
  }

  pub repeats_each_within : (P : ℕ → Type 0) (d : ℕ) → Repeats P p c → Repeats (λ i. Between P i (i + d + 1)) p c
  repeats_each_within P d r = record {
    ahead = λ i l f. let e : i + d + 1 + c ≡ i + c + d + 1 = omega arith in subst (Between P (i + c)) e (between_ahead P r i (i + d + 1) l f);
    back = λ i l f. let e : i + c + d + 1 ≡ i + d + 1 + c = omega arith in between_back P r i (i + d + 1) l (subst (Between P (i + c)) e f);
  }

  pub repeats_until_within : (P Q : ℕ → Type 0) (d : ℕ) → Repeats P p c → Repeats Q p c → Repeats (λ i. HoldsUntilBefore (i + d + 1) P Q i) p c
  repeats_until_within P Q d r s = record {
    ahead = λ i l w.
        (w.0 + c, omega (arith, w.1), omega (arith, w.2), (s.ahead w.0 (omega (arith, w.1)) w.3.0, between_ahead P r i w.0 l w.3.1));
    back = λ i l w.
        (w.0 - c, omega (arith, w.1), omega (arith, w.1, w.2), (s.back (w.0 - c) (omega (arith, w.1)) (back_by Q w.0 c (omega (arith, w.1)) w.3.0), between_back P r i (w.0 - c) l (back_by (Between P (i + c)) w.0 c (omega (arith, w.1)) w.3.1)));
  }

  pub repeats_releases_within : (P Q : ℕ → Type 0) (d : ℕ) → Repeats P p c → Repeats Q p c → Repeats (λ i. ReleasesBefore (i + d + 1) P Q i) p c
  repeats_releases_within P Q d r s = record {
    ahead = λ i l f j o b.
        ⊎_elim (λ q. inl (on_by Q j c (omega arith) (s.ahead (j - c) (omega arith) q))) (λ w. inr (on_by (SomeBetween P (i + c)) j c (omega arith) (some_between_ahead P r i (j - c) l w))) (f (j - c) (omega arith) (omega arith));
    back = λ i l f j o b. ⊎_elim (λ q. inl (s.back j (omega arith) q)) (λ w. inr (some_between_back P r i j l w)) (f (j + c) (omega arith) (omega arith));
  }
