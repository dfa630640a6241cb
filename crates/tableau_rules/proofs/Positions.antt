-- An until and a release, from one position to the next.
use Rattle.std.proofs.Common.{ℕ, ◌+◌, ◌<◌, ◌≤◌, ◌⊎◌, arith, inl, inr, sym, subst, le_refl, eq-or-lt_of_le}
use Rattle.temporal_logic.specs.Truth.{Between, HoldsUntil, Releases}

-- the until that begins at i is fulfilled at j
pub record Fulfilled (P Q : ℕ → Type 0) (i j : ℕ) : Type 0 where
  pub after : i ≤ j
  pub end : Q j
  pub along : Between P i j

module _ (P Q : ℕ → Type 0) where
  pub until_of : (i j : ℕ) → Fulfilled P Q i j → HoldsUntil P Q i
  until_of i j w = (j, w.after, (w.end, w.along))

  pub of_until : (i : ℕ) → HoldsUntil P Q i → (j : ℕ) × Fulfilled P Q i j
  of_until i h = (h.0, record { after = h.1; end = h.2.0; along = h.2.1 })

  pub fulfilled_later : (i j : ℕ) → Fulfilled P Q i j → i < j → P i × Fulfilled P Q (i + 1) j
  fulfilled_later i j w l =
      (w.along i (le_refl i) l, record { after = omega arith; end = w.end; along = λ k h g. w.along k (omega arith) g })

  pub until_here : (i : ℕ) → Q i → HoldsUntil P Q i
  until_here i h = (i, le_refl i, (h, λ k l g. absurd (omega arith)))

  pub until_later : (i : ℕ) → P i → HoldsUntil P Q (i + 1) → HoldsUntil P Q i
  until_later i h u =
      (u.0, omega (arith, u.1), (u.2.0, λ k l g. elim (eq-or-lt_of_le l) [ inl e ↦ subst P e h | inr m ↦ u.2.1 k (omega arith) g ]))

  pub until_cases : (i : ℕ) → HoldsUntil P Q i → Q i ⊎ (P i × HoldsUntil P Q (i + 1))
  until_cases i h =
      let w = of_until i h in
      elim (eq-or-lt_of_le w.1.after) [
        | inl e ↦ inl (subst Q (sym e) w.1.end)
        | inr l ↦ let r = fulfilled_later i w.0 w.1 l in inr (r.0, until_of (i + 1) w.0 r.1)
      ]

  pub release_here : (i : ℕ) → Releases P Q i → Q i
  release_here i h = elim (h i (le_refl i)) [ inl x ↦ x | inr w ↦ absurd (omega (arith, w.1, w.2)) ]

  pub release_next : (i : ℕ) → Releases P Q i → ¬ (P i) → Releases P Q (i + 1)
  release_next i h none = λ j l. elim (h j (omega arith)) [
    | inl x ↦ inl x
    | inr w ↦
        inr (elim (eq-or-lt_of_le w.1) [
          | inl e ↦ absurd (none (subst P (sym e) w.3))
          | inr m ↦ (w.0, omega arith, w.2, w.3)
        ])
  ]

  pub release_stop : (i : ℕ) → P i → Q i → Releases P Q i
  release_stop i x y = λ j l. elim (eq-or-lt_of_le l) [ inl e ↦ inl (subst Q e y) | inr m ↦ inr (i, le_refl i, m, x) ]

  pub release_later : (i : ℕ) → Q i → Releases P Q (i + 1) → Releases P Q i
  release_later i y r = λ j l. elim (eq-or-lt_of_le l) [
    | inl e ↦ inl (subst Q e y)
    | inr m ↦ elim (r j (omega arith)) [ inl z ↦ inl z | inr w ↦ inr (w.0, omega (arith, w.1), w.2, w.3) ]
  ]
