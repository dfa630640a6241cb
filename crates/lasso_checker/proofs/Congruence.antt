-- What has equivalent parts is equivalent: for each way in which operators are put together.
use Rattle.std.proofs.Common.{ℕ, ◌+◌, ◌↔◌}
use Rattle.temporal_logic.proofs.Equivalences.{not_iff, and_iff, or_iff, to_iff, iff_iff, sometime_iff, ever_iff, between_iff, some_between_iff, until_iff, releases_iff, until_before_iff, releases_before_iff}
use Rattle.lasso_checker.specs.declared.operators.Join.{Join}
use Rattle.lasso_checker.specs.declared.operators.Join.TheVariants.{And, Or, Implies, Iff}
use Rattle.lasso_checker.specs.declared.operators.Waiting.{Waiting}
use Rattle.lasso_checker.specs.declared.operators.Waiting.TheVariants.{Until, Unless, Release}
use Rattle.lasso_checker.specs.declared.operators.Unary.{Unary}
use Rattle.lasso_checker.specs.declared.operators.Unary.TheVariants.{Not, Next, Eventually, Always, EventuallyWithin, AlwaysWithin}
use Rattle.lasso_checker.specs.declared.operators.Binary.{Binary}
use Rattle.lasso_checker.specs.declared.operators.Binary.TheVariants.{And as BinaryAnd, Or as BinaryOr, Implies as BinaryImplies, Iff as BinaryIff, Entails as BinaryEntails, Until as BinaryUntil, Unless as BinaryUnless, Release as BinaryRelease, UntilWithin, UnlessWithin, ReleaseWithin}
use Rattle.lasso_checker.specs.Operators.{Joined, Steps, Waits, WaitsBefore, Applied, Combined}

pub joined_iff : {A B C D : Type 0} (join : Join) → A ↔ B → C ↔ D → Joined join A C ↔ Joined join B D
joined_iff And e f = and_iff e f
joined_iff Or e f = or_iff e f
joined_iff Implies e f = to_iff e f
joined_iff Iff e f = iff_iff e f

pub steps_iff : {A B C D E F : Type 0} (waiting : Waiting) → A ↔ B → C ↔ D → E ↔ F → Steps waiting A C E ↔ Steps waiting B D F
steps_iff Until e f g = or_iff f (and_iff e g)
steps_iff Unless e f g = or_iff f (and_iff e g)
steps_iff Release e f g = and_iff f (or_iff e g)

module _ (P Q R S : ℕ → Type 0) (e : (j : ℕ) → P j ↔ R j) (f : (j : ℕ) → Q j ↔ S j) (i : ℕ) where
  pub waits_iff : (waiting : Waiting) → Waits waiting P Q i ↔ Waits waiting R S i
  waits_iff Until = until_iff P Q R S e f i
  waits_iff Unless = or_iff (until_iff P Q R S e f i) (ever_iff P R e i)
  waits_iff Release = releases_iff P Q R S e f i

  pub waits_before_iff : (waiting : Waiting) (n : ℕ) → WaitsBefore waiting n P Q i ↔ WaitsBefore waiting n R S i
  waits_before_iff Until n = until_before_iff P Q R S e f i n
  waits_before_iff Unless n = or_iff (until_before_iff P Q R S e f i n) (between_iff P R e i n)
  waits_before_iff Release n = releases_before_iff P Q R S e f i n

  pub combined_iff : (binary : Binary) → Combined binary P Q i ↔ Combined binary R S i
  combined_iff BinaryAnd = and_iff (e i) (f i)
  combined_iff BinaryOr = or_iff (e i) (f i)
  combined_iff BinaryImplies = to_iff (e i) (f i)
  combined_iff BinaryIff = iff_iff (e i) (f i)
  combined_iff BinaryEntails = ever_iff (λ j. P j → Q j) (λ j. R j → S j) (λ j. to_iff (e j) (f j)) i
  combined_iff BinaryUntil = waits_iff Until
  combined_iff BinaryUnless = waits_iff Unless
  combined_iff BinaryRelease = waits_iff Release
  combined_iff (UntilWithin d) = waits_before_iff Until (i + d + 1)
  combined_iff (UnlessWithin d) = waits_before_iff Unless (i + d + 1)
  combined_iff (ReleaseWithin d) = waits_before_iff Release (i + d + 1)

pub applied_iff : (unary : Unary) (P R : ℕ → Type 0) → ((j : ℕ) → P j ↔ R j) → (i : ℕ) → Applied unary P i ↔ Applied unary R i
applied_iff Not P R e i = not_iff (e i)
applied_iff Next P R e i = e (i + 1)
applied_iff Eventually P R e i = sometime_iff P R e i
applied_iff Always P R e i = ever_iff P R e i
applied_iff (EventuallyWithin d) P R e i = some_between_iff P R e i (i + d + 1)
applied_iff (AlwaysWithin d) P R e i = between_iff P R e i (i + d + 1)
