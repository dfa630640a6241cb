-- Which trace a lasso is: its prefix, and from the end of that on its loop, over and over.
use Rattle.std.specs.Prelude.{ℕ, List}
use Rattle.temporal_logic.specs.declared.lasso.Lasso.{Lasso}
use Rattle.temporal_logic.specs.Truth.{Trace}
pub use Rattle.temporal_logic.specs.Rows.{rows, AllFit, row_at, from_lists}

-- the value indexes at a position
abbrev pub values_at : Lasso → ℕ → List ℕ
values_at lasso = row_at (rows lasso.prefix.items) (rows lasso.cycle.items)

-- the value index of a variable at a position
abbrev pub trace_of : Lasso → Trace
trace_of lasso = from_lists (rows lasso.prefix.items) (rows lasso.cycle.items)

-- each state of the prefix and of the loop fits the sizes
abbrev pub IsOfSpace : List ℕ → Lasso → Type 0
IsOfSpace sizes lasso = AllFit sizes lasso.prefix.items × AllFit sizes lasso.cycle.items
