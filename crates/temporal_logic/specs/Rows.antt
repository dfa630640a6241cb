-- Rows of value indexes, and the trace of a prefix and a loop of them.
use Rattle.std.specs.Prelude.{◌≡◌, ℕ, ◌-◌, ◌%◌, ◌<◌, nat_lt, if◌then◌else◌, List, [], length, map, slice_index, slice_index_or, All}
use Rattle.state_space.specs.declared.state.State.{State}
use Rattle.state_space.specs.Fitting.{ValuesFit}
use Rattle.temporal_logic.specs.Truth.{Trace}

-- the states as rows, each of one state's value indexes
abbrev pub rows : List State → List (List ℕ)
rows = map (λ s. s.values.items)

-- each of the states fits the sizes
abbrev pub AllFit : List ℕ → List State → Type 0
AllFit sizes states = All (λ s. ValuesFit sizes s.values.items) states

-- the row at a position: of the prefix, and from its end on of the loop, over and over
abbrev pub row_at : List (List ℕ) → List (List ℕ) → ℕ → List ℕ
row_at prefix cycle i =
    (if nat_lt i (length prefix) then slice_index_or prefix i [] else slice_index_or cycle ((i - length prefix) % length cycle) [])

-- the trace of a prefix and a loop
abbrev pub from_lists : List (List ℕ) → List (List ℕ) → Trace
from_lists prefix cycle i x = slice_index (row_at prefix cycle i) x

-- a prefix and a loop, of rows that fit the sizes, whose trace agrees with this one on each variable at each position
pub record IsGiven (sizes : List ℕ) (t : Trace) : Type 0 where
  pub prefix : List (List ℕ)
  pub cycle : List (List ℕ)
  pub turns : 0 < length cycle
  pub prefix_fits : All (ValuesFit sizes) prefix
  pub cycle_fits : All (ValuesFit sizes) cycle
  pub same : (i x : ℕ) → x < length sizes → t i x ≡ from_lists prefix cycle i x
