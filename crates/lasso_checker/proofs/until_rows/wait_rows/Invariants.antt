use Rattle.std.proofs.Common.{◌+◌, ◌≤◌, ◌↔◌, IsTrue}
use Rattle.lasso_checker.specs.Layouts.{Row}
use Rattle.lasso_checker.specs.Operators.{Waits, WaitsBefore}
use Rattle.lasso_checker.proofs.Filling.{Filled}
use Rattle.lasso_checker.proofs.until_rows.wait_rows.Given as goal

abbrev pub invariant-turn : goal.invariant-turn
invariant-turn l = record {
  now_is : IsTrue l.now ↔ WaitsBefore l.waiting l.end (Row l.layout l.fn.table l.base) (Row l.layout l.fn.table (l.base + l.layout.words)) l.place;
  from_start : l.layout.start ≤ l.place;
}

abbrev pub invariant-all : goal.invariant-all
invariant-all l = record {
  now_is : IsTrue l.now ↔ Waits l.waiting (Row l.layout l.fn.table l.base) (Row l.layout l.fn.table (l.base + l.layout.words)) l.place;
  filled : Filled (Waits l.waiting (Row l.layout l.fn.table l.base) (Row l.layout l.fn.table (l.base + l.layout.words))) l.fn.table l.table l.base l.layout.words l.end l.place;
}
