-- What operators make of predicates of positions.
use Rattle.std.specs.Prelude.{ℕ, ◌+◌, ◌⊎◌, ◌↔◌, Bool, true, false}
use Rattle.temporal_logic.specs.Truth.{Sometime, Ever, Between, SomeBetween, HoldsUntil, Releases, HoldsUntilBefore, ReleasesBefore}
use Rattle.lasso_checker.specs.declared.operators.Join.{Join}
use Rattle.lasso_checker.specs.declared.operators.Join.TheVariants.{And, Or, Implies, Iff}
use Rattle.lasso_checker.specs.declared.operators.Waiting.{Waiting}
use Rattle.lasso_checker.specs.declared.operators.Waiting.TheVariants.{Until, Unless, Release}
use Rattle.lasso_checker.specs.declared.operators.Unary.{Unary}
use Rattle.lasso_checker.specs.declared.operators.Unary.TheVariants.{Not, Next, Eventually, Always, EventuallyWithin, AlwaysWithin}
use Rattle.lasso_checker.specs.declared.operators.Binary.{Binary}
use Rattle.lasso_checker.specs.declared.operators.Binary.TheVariants.{And as BinaryAnd, Or as BinaryOr, Implies as BinaryImplies, Iff as BinaryIff, Entails as BinaryEntails, Until as BinaryUntil, Unless as BinaryUnless, Release as BinaryRelease, UntilWithin, UnlessWithin, ReleaseWithin}

-- what an operator says at one position, from what its operands say there
abbrev pub Joined : Join → Type 0 → Type 0 → Type 0
Joined And p q = p × q
Joined Or p q = p ⊎ q
Joined Implies p q = p → q
Joined Iff p q = p ↔ q

-- what an operator that waits says at one position, from its operands there and from what it says at the next
abbrev pub Steps : Waiting → Type 0 → Type 0 → Type 0 → Type 0
Steps Until p q next = q ⊎ (p × next)
Steps Unless p q next = q ⊎ (p × next)
Steps Release p q next = q × (p ⊎ next)

-- what an operator that waits says where no position is left
abbrev pub starts : Waiting → Bool
starts Until = false
starts Unless = true
starts Release = true

-- what an operator that waits says at i, from its operands at all positions from i on
abbrev pub Waits : Waiting → (ℕ → Type 0) → (ℕ → Type 0) → ℕ → Type 0
Waits Until P Q i = HoldsUntil P Q i
Waits Unless P Q i = HoldsUntil P Q i ⊎ Ever P i
Waits Release P Q i = Releases P Q i

-- the same within a bound: from its operands at the positions from i on before n
abbrev pub WaitsBefore : Waiting → ℕ → (ℕ → Type 0) → (ℕ → Type 0) → ℕ → Type 0
WaitsBefore Until n P Q i = HoldsUntilBefore n P Q i
WaitsBefore Unless n P Q i = HoldsUntilBefore n P Q i ⊎ Between P i n
WaitsBefore Release n P Q i = ReleasesBefore n P Q i

-- what an operator of one operand says at i, from what the operand says at each position
abbrev pub Applied : Unary → (ℕ → Type 0) → ℕ → Type 0
Applied Not P i = ¬ (P i)
Applied Next P i = P (i + 1)
Applied Eventually P i = Sometime P i
Applied Always P i = Ever P i
Applied (EventuallyWithin d) P i = SomeBetween P i (i + d + 1)
Applied (AlwaysWithin d) P i = Between P i (i + d + 1)

-- what an operator of two operands says at i, from what each says at each position
abbrev pub Combined : Binary → (ℕ → Type 0) → (ℕ → Type 0) → ℕ → Type 0
Combined BinaryAnd P Q i = P i × Q i
Combined BinaryOr P Q i = P i ⊎ Q i
Combined BinaryImplies P Q i = P i → Q i
Combined BinaryIff P Q i = P i ↔ Q i
Combined BinaryEntails P Q i = Ever (λ j. P j → Q j) i
Combined BinaryUntil P Q i = Waits Until P Q i
Combined BinaryUnless P Q i = Waits Unless P Q i
Combined BinaryRelease P Q i = Waits Release P Q i
Combined (UntilWithin d) P Q i = WaitsBefore Until (i + d + 1) P Q i
Combined (UnlessWithin d) P Q i = WaitsBefore Unless (i + d + 1) P Q i
Combined (ReleaseWithin d) P Q i = WaitsBefore Release (i + d + 1) P Q i
