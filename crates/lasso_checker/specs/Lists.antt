-- Which formula of a list is the first that is false at the start of a trace.
use Rattle.std.specs.Prelude.{ℕ, ◌<◌, List, length, take, slice_index_or}
use Rattle.temporal_logic.specs.Ltl.{Ltl, truth}
use Rattle.temporal_logic.specs.Truth.{Trace, Truth, Meets}

-- the formula at the index, counted from 0, is false at the start of the trace, and each one before it is true there
pub record IsFirstFalse (t : Trace) (list : List Ltl) (index : ℕ) : Type 0 where
  pub within : index < length list
  pub before : Meets t (take index list)
  pub false_there : ¬ (Truth t (slice_index_or list index truth) 0)
