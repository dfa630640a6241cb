-- What values a variable may have, and how many.
use Rattle.std.specs.Prelude.{◌≢◌, ℕ, ◌≤◌, ◌<◌, ℤ, pos, negsuc, ◌+ℤ◌, ◌-ℤ◌, List, length, AllPairs}
use Rattle.state_space.specs.declared.range.Range.{Range}
use Rattle.state_space.specs.declared.range.Range.TheVariants.{Bool, Names, Span}

-- a range, wherever its names lie in memory
pub data RangeForm : Type 0 where
  truth_values : RangeForm
  named : (values : List (List ℕ)) → RangeForm
  span : (low high : ℤ) → RangeForm

-- the range that one of the code stands for
abbrev pub form_of : Range → RangeForm
form_of Bool = truth_values
form_of (Names ns) = named ns.items
form_of (Span low high) = span low high

-- a signed number, or 0 where it is below 0
abbrev pub above_zero : ℤ → ℕ
above_zero (pos n) = n
above_zero (negsuc n) = 0

-- how many values a range has: a span has none where its low end is over its high end
abbrev pub size_of : RangeForm → ℕ
size_of truth_values = 2
size_of (named values) = length values
size_of (span low high) = above_zero ((high +ℤ pos 1) -ℤ low)

-- no two names of an enumeration are equal
abbrev pub HasDistinctNames : RangeForm → Type 0
HasDistinctNames truth_values = Unit {0}
HasDistinctNames (named values) = AllPairs (λ a b. a ≢ b) values
HasDistinctNames (span low high) = Unit {0}

-- a range that a variable may have
pub record IsGoodRange (range : RangeForm) : Type 0 where
  pub some : 0 < size_of range
  pub few : size_of range ≤ 64
  pub apart : HasDistinctNames range
