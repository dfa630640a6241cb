-- Waiting with an operand that holds everywhere, or nowhere.
use Rattle.std.proofs.Common.{ℕ, ◌↔◌, ◌⊎◌, inr, refl, ⊎_elim, true, false}
use Rattle.std.specs.Prelude.{IsTrue}
use Rattle.std.proofs.lemmas.Bool.{false≢true}
use Rattle.temporal_logic.specs.Truth.{Sometime, Ever, Between, SomeBetween, HoldsUntil, HoldsUntilBefore}

module _ (P Q R : ℕ → Type 0) (e : (j : ℕ) → P j ↔ IsTrue true) (f : (j : ℕ) → Q j ↔ R j) (i : ℕ) where
  pub true_until : HoldsUntil P Q i ↔ Sometime R i
  true_until =
      (λ w. (w.0, w.1, (f w.0).0 w.2.0), λ w. (w.0, w.1, ((f w.0).1 w.2, λ k l s. (e k).1 refl)))

  pub true_until_before : (n : ℕ) → HoldsUntilBefore n P Q i ↔ SomeBetween R i n
  true_until_before n =
      (λ w. (w.0, w.1, w.2, (f w.0).0 w.3.0), λ w. (w.0, w.1, w.2, ((f w.0).1 w.3, λ k l s. (e k).1 refl)))

module _ (P Q R : ℕ → Type 0) (e : (j : ℕ) → P j ↔ R j) (f : (j : ℕ) → Q j ↔ IsTrue false) (i : ℕ) where
  pub unless_false : (HoldsUntil P Q i ⊎ Ever P i) ↔ Ever R i
  unless_false =
      (⊎_elim (λ w. absurd (false≢true ((f w.0).0 w.2.0))) (λ g j o. (e j).0 (g j o)), λ g. inr (λ j o. (e j).1 (g j o)))

  pub unless_false_before : (n : ℕ) → (HoldsUntilBefore n P Q i ⊎ Between P i n) ↔ Between R i n
  unless_false_before n =
      (⊎_elim (λ w. absurd (false≢true ((f w.0).0 w.3.0))) (λ g j o s. (e j).0 (g j o s)), λ g. inr (λ j o s. (e j).1 (g j o s)))
