-- What the operators say, and the plain formulas that they make.
use Rattle.std.specs.Prelude.{ℕ, ◌+◌, ◌⊎◌, ◌↔◌}
use Rattle.temporal_logic.specs.Ltl.{Ltl, neg, conj, disj, implies, iff, entails, next, eventually, always, until, unless, release, eventually_within, always_within, until_within, unless_within, release_within}
use Rattle.temporal_logic.specs.Truth.{Sometime, Ever, Between, SomeBetween, HoldsUntil, Releases, HoldsUntilBefore, ReleasesBefore}
use Rattle.entity_types.specs.declared.written.Opening.{Opening}
use Rattle.entity_types.specs.declared.written.Opening.TheVariants.{Not, Next, Eventually, Always, EventuallyWithin, AlwaysWithin}
use Rattle.entity_types.specs.declared.written.Joining.{Joining}
use Rattle.entity_types.specs.declared.written.Joining.TheVariants.{And, Or, Implies, Iff, Entails, Until, Unless, Release, UntilWithin, UnlessWithin, ReleaseWithin}

-- what an operator of one operand says at a position, of what its operand says at each
abbrev pub Opens : Opening → (ℕ → Type 0) → ℕ → Type 0
Opens Not P i = ¬ (P i)
Opens Next P i = P (i + 1)
Opens Eventually P i = Sometime P i
Opens Always P i = Ever P i
Opens (EventuallyWithin d) P i = SomeBetween P i (i + d + 1)
Opens (AlwaysWithin d) P i = Between P i (i + d + 1)

-- what an operator of two operands says at a position, of what each operand says at each
abbrev pub Joins : Joining → (P Q : ℕ → Type 0) → ℕ → Type 0
Joins And P Q i = P i × Q i
Joins Or P Q i = P i ⊎ Q i
Joins Implies P Q i = P i → Q i
Joins Iff P Q i = P i ↔ Q i
Joins Entails P Q i = Ever (λ j. P j → Q j) i
Joins Until P Q i = HoldsUntil P Q i
Joins Unless P Q i = HoldsUntil P Q i ⊎ Ever P i
Joins Release P Q i = Releases P Q i
Joins (UntilWithin d) P Q i = HoldsUntilBefore (i + d + 1) P Q i
Joins (UnlessWithin d) P Q i = HoldsUntilBefore (i + d + 1) P Q i ⊎ Between P i (i + d + 1)
Joins (ReleaseWithin d) P Q i = ReleasesBefore (i + d + 1) P Q i

-- the plain formula that an operator makes of its operand
abbrev pub opened : Opening → Ltl → Ltl
opened Not a = neg a
opened Next a = next a
opened Eventually a = eventually a
opened Always a = always a
opened (EventuallyWithin d) a = eventually_within d a
opened (AlwaysWithin d) a = always_within d a

-- the plain formula that an operator makes of its two operands
abbrev pub joined : Joining → Ltl → Ltl → Ltl
joined And a b = conj a b
joined Or a b = disj a b
joined Implies a b = implies a b
joined Iff a b = iff a b
joined Entails a b = entails a b
joined Until a b = until a b
joined Unless a b = unless a b
joined Release a b = release a b
joined (UntilWithin d) a b = until_within d a b
joined (UnlessWithin d) a b = unless_within d a b
joined (ReleaseWithin d) a b = release_within d a b
