use Rattle.std.specs.Prelude.{map, take}
use Rattle.temporal_logic.specs.Lassos.{trace_of}
use Rattle.temporal_logic.specs.Trees.{tree_of}
use Rattle.temporal_logic.specs.Truth.{Meets}
use Rattle.lasso_checker.proofs.check.first_false.Given as goal

abbrev pub invariant-formulas : goal.invariant-formulas
invariant-formulas l = Meets (trace_of l.lasso) (take l.index (map tree_of l.list))
