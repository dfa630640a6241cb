use Rattle.std.specs.Prelude.{Ok}
use Rattle.bound_unfolding.specs.CoreTree.{steps}
use Rattle.formula_table.specs.Closures.{formula_at}
use Rattle.formula_table.specs.CorePuts.{IsCorePut}
use Rattle.formula_table.specs.Tables.{closure_in}
use Rattle.formula_table.proofs.table.Table.put_steps.Given as goal

abbrev pub invariant-steps : goal.invariant-steps
invariant-steps l = IsCorePut (steps l.each l._step (formula_at (closure_in l.fn.self) l.a.0)) (closure_in l.fn.self) (closure_in l.self) (Ok l.all)
