-- One more step of an operator that waits within a bound.
use Rattle.std.proofs.Common.{◌≡◌, ℕ, ◌+◌, ◌↔◌, subst, arith}
use Rattle.std.specs.Prelude.{IsTrue}
use Rattle.temporal_logic.proofs.Equivalences.{iff_trans}
use Rattle.lasso_checker.specs.declared.operators.Waiting.{Waiting}
use Rattle.lasso_checker.specs.Operators.{Steps, starts, WaitsBefore}
use Rattle.lasso_checker.proofs.Congruence.{steps_iff}
use Rattle.lasso_checker.proofs.Unfoldings.{starts_waiting, waits_before_unfolds}

module _ (waiting : Waiting) (P Q : ℕ → Type 0) where
  pub no_step : (X : ℕ → Type 0) (i : ℕ) → X i ↔ IsTrue (starts waiting) → X i ↔ WaitsBefore waiting (i + 0) P Q i
  no_step X i e = iff_trans e (starts_waiting P Q waiting (i + 0) i (omega arith))

  pub one_step : ((i : ℕ) → Dec (P i)) → (X Y : ℕ → Type 0) (k : ℕ) → ((i : ℕ) → X i ↔ WaitsBefore waiting (i + k) P Q i) → ((i : ℕ) → Y i ↔ Steps waiting (P i) (Q i) (X (i + 1))) → (i : ℕ) → Y i ↔ WaitsBefore waiting (i + (k + 1)) P Q i
  one_step decided X Y k before step i =
      let same : i + 1 + k ≡ i + (k + 1) = omega arith in
      let next = subst (λ n. X (i + 1) ↔ WaitsBefore waiting n P Q (i + 1)) same (before (i + 1)) in
      iff_trans (step i) (iff_trans (steps_iff waiting (λ h. h, λ h. h) (λ h. h, λ h. h) next) (waits_before_unfolds P Q decided waiting (i + (k + 1)) i (omega arith)))
