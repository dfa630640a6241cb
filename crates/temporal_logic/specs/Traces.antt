-- Traces that end in a loop, and the traces of a space.
use Rattle.std.specs.Prelude.{◌≡◌, ℕ, ◌+◌, ◌<◌, ◌≤◌, List, length, slice_index}
use Rattle.temporal_logic.specs.Truth.{Trace}

-- from a position on, the trace is the same a whole turn later, for ever
pub record Loops (t : Trace) (start turn : ℕ) : Type 0 where
  pub turns : 0 < turn
  pub same : (i x : ℕ) → start ≤ i → t (i + turn) x ≡ t i x

-- each variable's value index is below its size, at each position
abbrev pub TraceFits : List ℕ → Trace → Type 0
TraceFits sizes t = (i x : ℕ) → x < length sizes → t i x < slice_index sizes x

-- an ultimately periodic trace over variables of these sizes
pub record IsPeriodic (sizes : List ℕ) (t : Trace) : Type 0 where
  pub start : ℕ
  pub turn : ℕ
  pub loops : Loops t start turn
  pub fits : TraceFits sizes t
