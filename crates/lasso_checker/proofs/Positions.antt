-- The place of a position in a row.
use Rattle.std.proofs.Common.{◌≡◌, ℕ, zero, suc, ◌+◌, ◌-◌, ◌%◌, ◌<◌, ◌≤◌, ◌↔◌, List, sym, ap, ◌∙◌, subst, arith, ⊎_elim}
use Rattle.std.proofs.lemmas.Bool.{cases_lt, le-ltb, lt-ltb, cond-false, cond-true}
use Rattle.std.proofs.lemmas.Nat.{mod_below}
use Rattle.std.proofs.Math.Nat.{add-mod_right, mod-eq_of_lt}
use Rattle.temporal_logic.proofs.Search.{Repeats}
use Rattle.lasso_checker.specs.Places.{bit_of, place_of, RowAt}

module _ (p c : ℕ) (turns : 0 < c) where
  on_turn : (i : ℕ) → p ≤ i → place_of p c i ≡ p + (i - p) % c
  on_turn i l = cond-false _ _ _ (le-ltb i p l)

  pub place_below : (i : ℕ) → i < p + c → place_of p c i ≡ i
  place_below i l =
      ⊎_elim (λ s. cond-true _ _ _ (lt-ltb i p s))
      (λ g. let small : i - p < c = omega arith in
      let whole : p + (i - p) ≡ i = omega arith in
      on_turn i g ∙ ap (λ k. p + k) (mod-eq_of_lt small) ∙ whole)
      (cases_lt i p)

  pub place_in : (i : ℕ) → place_of p c i < p + c
  place_in i =
      ⊎_elim (λ s. let e = cond-true _ i (p + (i - p) % c) (lt-ltb i p s) in omega (arith, e))
      (λ g. let e = on_turn i g in let b = mod_below (i - p) c turns in omega (arith, e, b))
      (cases_lt i p)

  pub place_turn : (i : ℕ) → p ≤ i → place_of p c (i + c) ≡ place_of p c i
  place_turn i l =
      let e : i + c - p ≡ i - p + c = omega arith in
      on_turn (i + c) (omega arith) ∙ ap (λ k. p + k % c) e ∙ ap (λ k. p + k) (add-mod_right (i - p) c) ∙ sym (on_turn i l)

  pub row_repeats : (t : List ℕ) (base : ℕ) → Repeats (RowAt t base p c) p c
  row_repeats t base = record {
    ahead = λ i l h. ap (bit_of t base) (place_turn i l) ∙ h;
    back = λ i l h. ap (bit_of t base) (sym (place_turn i l)) ∙ h;
  }

  pub row_here : (t : List ℕ) (base i : ℕ) → i < p + c → (bit_of t base i ≡ 1) ↔ RowAt t base p c i
  row_here t base i l = (λ h. ap (bit_of t base) (place_below i l) ∙ h, λ h. sym (ap (bit_of t base) (place_below i l)) ∙ h)

  -- what repeats is known by its places
  known : (X : ℕ → Type 0) → Repeats X p c → (fuel i : ℕ) → i < fuel → X (place_of p c i) ↔ X i
  known X r zero i l = absurd (omega arith)
  known X r (suc f) i l =
      ⊎_elim (λ s. (λ h. subst X (place_below i s) h, λ h. subst X (sym (place_below i s)) h)) (λ g. far g (known X r f (i - c) (omega arith))) (cases_lt i (p + c))
    where
      far : p + c ≤ i → X (place_of p c (i - c)) ↔ X (i - c) → X (place_of p c i) ↔ X i
      far g k =
          let same : i - c + c ≡ i = omega arith in
          let e : place_of p c i ≡ place_of p c (i - c) = ap (place_of p c) (sym same) ∙ place_turn (i - c) (omega arith) in
          (λ h. subst X same (r.ahead (i - c) (omega arith) (k.0 (subst X e h))), λ h. subst X (sym e) (k.1 (r.back (i - c) (omega arith) (subst X (sym same) h))))

  pub by_place : (X : ℕ → Type 0) → Repeats X p c → (i : ℕ) → X (place_of p c i) ↔ X i
  by_place X r i = known X r (suc i) i (omega arith)
