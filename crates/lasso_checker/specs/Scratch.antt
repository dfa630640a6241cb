-- How many words of scratch a formula takes on a lasso.
use Rattle.std.specs.Prelude.{ℕ, ◌+◌, ◌-◌, ◌*◌, ◌/◌, ◌^◌, length, min, max}
use Rattle.temporal_logic.specs.declared.lasso.Lasso.{Lasso}
use Rattle.temporal_logic.specs.Ltl.{Ltl, truth, falsity, flag, compares, among, relates, neg, conj, disj, implies, iff, entails, next, eventually, always, until, unless, release, eventually_within, always_within, until_within, unless_within, release_within}
use Rattle.lasso_checker.specs.declared.operators.Unary.{Unary}
use Rattle.lasso_checker.specs.declared.operators.Unary.TheVariants.{Not, Next, Eventually, Always, EventuallyWithin, AlwaysWithin}
use Rattle.lasso_checker.specs.declared.operators.Binary.{Binary}
use Rattle.lasso_checker.specs.declared.operators.Binary.TheVariants.{UntilWithin, UnlessWithin, ReleaseWithin}

-- words of 64 bits that hold one bit for each position of the prefix and of the loop
abbrev pub words_of : Lasso → ℕ
words_of lasso = (length lasso.prefix.items + length lasso.cycle.items + 63) / 64

-- rows for an operator that works on so many, and for its operand, which begins at the first
abbrev pub rows_over : ℕ → ℕ → ℕ
rows_over own a = max a own

-- rows for an operator that works on so many, and for its two operands, which begin at the first and at the second
abbrev pub rows_over_both : ℕ → ℕ → ℕ → ℕ
rows_over_both own a b = max (max a (b + 1)) own

-- rows that an operator of one operand works on
abbrev pub unary_rows : Unary → ℕ
unary_rows Not = 1
unary_rows Next = 1
unary_rows Eventually = 2
unary_rows Always = 2
unary_rows (EventuallyWithin d) = 3
unary_rows (AlwaysWithin d) = 3

-- rows that an operator of two operands works on
abbrev pub binary_rows : Binary → ℕ
binary_rows (UntilWithin d) = 3
binary_rows (UnlessWithin d) = 3
binary_rows (ReleaseWithin d) = 3
binary_rows _ = 2

-- rows that a formula takes: bounded operators count their steps in a third
abbrev pub rows_of : Ltl → ℕ
rows_of truth = 1
rows_of falsity = 1
rows_of (flag x) = 1
rows_of (compares x r v) = 1
rows_of (among x set) = 1
rows_of (relates x r y) = 1
rows_of (neg a) = rows_over 1 (rows_of a)
rows_of (conj a b) = rows_over_both 2 (rows_of a) (rows_of b)
rows_of (disj a b) = rows_over_both 2 (rows_of a) (rows_of b)
rows_of (implies a b) = rows_over_both 2 (rows_of a) (rows_of b)
rows_of (iff a b) = rows_over_both 2 (rows_of a) (rows_of b)
rows_of (entails a b) = rows_over_both 2 (rows_of a) (rows_of b)
rows_of (next a) = rows_over 1 (rows_of a)
rows_of (eventually a) = rows_over 2 (rows_of a)
rows_of (always a) = rows_over 2 (rows_of a)
rows_of (until a b) = rows_over_both 2 (rows_of a) (rows_of b)
rows_of (unless a b) = rows_over_both 2 (rows_of a) (rows_of b)
rows_of (release a b) = rows_over_both 2 (rows_of a) (rows_of b)
rows_of (eventually_within d a) = rows_over 3 (rows_of a)
rows_of (always_within d a) = rows_over 3 (rows_of a)
rows_of (until_within d a b) = rows_over_both 3 (rows_of a) (rows_of b)
rows_of (unless_within d a b) = rows_over_both 3 (rows_of a) (rows_of b)
rows_of (release_within d a b) = rows_over_both 3 (rows_of a) (rows_of b)

-- the words of all the rows, or the greatest number of 64 bits where that is less
abbrev pub scratch_of : Lasso → Ltl → ℕ
scratch_of lasso f = min (words_of lasso * rows_of f) (2 ^ 64 - 1)
