-- When a formula is true at a position of a trace: textbook temporal logic, with bounds counted in steps.
use Rattle.std.specs.Prelude.{◌≡◌, ◌≢◌, ℕ, ◌+◌, ◌<◌, ◌≤◌, ◌⊎◌, ◌↔◌, List, All}
use Rattle.std.specs.Int.{bit_at}
use Rattle.temporal_logic.specs.Ltl.{Relation, is_same, is_other, is_below, is_at_most, is_above, is_at_least, Ltl, truth, falsity, flag, compares, among, relates, neg, conj, disj, implies, iff, entails, next, eventually, always, until, unless, release, eventually_within, always_within, until_within, unless_within, release_within}

-- a trace gives each variable a value index at each position
abbrev pub Trace : Type 0
Trace = ℕ → ℕ → ℕ

-- a comparison holds of two value indexes
abbrev pub Compares : Relation → ℕ → ℕ → Type 0
Compares is_same a b = a ≡ b
Compares is_other a b = a ≢ b
Compares is_below a b = a < b
Compares is_at_most a b = a ≤ b
Compares is_above a b = b < a
Compares is_at_least a b = b ≤ a

-- at some position from i on
abbrev pub Sometime : (ℕ → Type 0) → ℕ → Type 0
Sometime P i = (j : ℕ) × (i ≤ j) × P j

-- at each position from i on
abbrev pub Ever : (ℕ → Type 0) → ℕ → Type 0
Ever P i = (j : ℕ) → i ≤ j → P j

-- at each position from i up to j, but for j
abbrev pub Between : (ℕ → Type 0) → ℕ → ℕ → Type 0
Between P i j = (k : ℕ) → i ≤ k → k < j → P k

-- at some position from i up to j, but for j
abbrev pub SomeBetween : (ℕ → Type 0) → ℕ → ℕ → Type 0
SomeBetween P i j = (k : ℕ) × (i ≤ k) × (k < j) × P k

-- Q at some position from i on, and P at each one from i before it
abbrev pub HoldsUntil : (ℕ → Type 0) → (ℕ → Type 0) → ℕ → Type 0
HoldsUntil P Q i = Sometime (λ j. Q j × Between P i j) i

-- each position from i on has Q, or P at some one from i before it
abbrev pub Releases : (ℕ → Type 0) → (ℕ → Type 0) → ℕ → Type 0
Releases P Q i = Ever (λ j. Q j ⊎ SomeBetween P i j) i

-- Q at some position before n, and P at each one from i before it
abbrev pub HoldsUntilBefore : ℕ → (ℕ → Type 0) → (ℕ → Type 0) → ℕ → Type 0
HoldsUntilBefore n P Q i = SomeBetween (λ j. Q j × Between P i j) i n

-- each position from i before n has Q, or P at some one from i before it
abbrev pub ReleasesBefore : ℕ → (ℕ → Type 0) → (ℕ → Type 0) → ℕ → Type 0
ReleasesBefore n P Q i = Between (λ j. Q j ⊎ SomeBetween P i j) i n

-- the formula is true at position i of the trace; a bound of d steps reaches from i to i + d
abbrev pub Truth : Trace → Ltl → ℕ → Type 0
Truth t truth i = Unit {0}
Truth t falsity i = ⊥
Truth t (flag x) i = t i x ≡ 1
Truth t (compares x r v) i = Compares r (t i x) v
Truth t (among x set) i = bit_at set (t i x) ≡ 1
Truth t (relates x r y) i = Compares r (t i x) (t i y)
Truth t (neg a) i = ¬ (Truth t a i)
Truth t (conj a b) i = Truth t a i × Truth t b i
Truth t (disj a b) i = Truth t a i ⊎ Truth t b i
Truth t (implies a b) i = Truth t a i → Truth t b i
Truth t (iff a b) i = Truth t a i ↔ Truth t b i
Truth t (entails a b) i = Ever (λ j. Truth t a j → Truth t b j) i
Truth t (next a) i = Truth t a (i + 1)
Truth t (eventually a) i = Sometime (Truth t a) i
Truth t (always a) i = Ever (Truth t a) i
Truth t (until a b) i = HoldsUntil (Truth t a) (Truth t b) i
Truth t (unless a b) i = HoldsUntil (Truth t a) (Truth t b) i ⊎ Ever (Truth t a) i
Truth t (release a b) i = Releases (Truth t a) (Truth t b) i
Truth t (eventually_within d a) i = SomeBetween (Truth t a) i (i + d + 1)
Truth t (always_within d a) i = Between (Truth t a) i (i + d + 1)
Truth t (until_within d a b) i = HoldsUntilBefore (i + d + 1) (Truth t a) (Truth t b) i
Truth t (unless_within d a b) i = HoldsUntilBefore (i + d + 1) (Truth t a) (Truth t b) i ⊎ Between (Truth t a) i (i + d + 1)
Truth t (release_within d a b) i = ReleasesBefore (i + d + 1) (Truth t a) (Truth t b) i

-- each formula of the list is true at the start of the trace
abbrev pub Meets : Trace → List Ltl → Type 0
Meets t list = All (λ f. Truth t f 0) list
