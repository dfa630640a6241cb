use Rattle.std.specs.Prelude.{Ok}
use Rattle.bound_unfolding.specs.CoreTree.{chain}
use Rattle.formula_table.specs.Closures.{formula_at}
use Rattle.formula_table.specs.CorePuts.{IsCorePut}
use Rattle.formula_table.specs.Tables.{closure_in}
use Rattle.formula_table.proofs.table.Table.put_chain.Given as goal

abbrev pub invariant-chain : goal.invariant-chain
invariant-chain l = IsCorePut (chain l.each l._step (formula_at (closure_in l.fn.self) l.a.0) (formula_at (closure_in l.fn.self) l.b.0)) (closure_in l.fn.self) (closure_in l.self) (Ok l.all)
