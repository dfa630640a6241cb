use Rattle.std.proofs.Common.{◌+◌}
use Rattle.temporal_logic.specs.Lassos.{trace_of}
use Rattle.temporal_logic.specs.Trees.{tree_of}
use Rattle.temporal_logic.specs.Truth.{Truth}
use Rattle.lasso_checker.proofs.Filling.{Filled}
use Rattle.lasso_checker.proofs.atom_rows.atom_row.Given as goal

abbrev pub invariant-row : goal.invariant-row
invariant-row l = Filled (Truth (trace_of l.lasso) (tree_of l.f)) l.fn.table l.table l.base l.layout.words (l.layout.start + l.layout.turn) l.place
