use Rattle.std.proofs.Common.{◌≡◌, ◌+◌}
use Rattle.lasso_checker.specs.Places.{bit_of}
use Rattle.lasso_checker.specs.Operators.{Joined}
use Rattle.lasso_checker.proofs.WordRows.{Worked}
use Rattle.lasso_checker.proofs.rows.join_rows.Given as goal

abbrev pub invariant-row : goal.invariant-row
invariant-row l = Worked (λ q. Joined l.join (bit_of l.fn.table l.base q ≡ 1) (bit_of l.fn.table (l.base + l.layout.words) q ≡ 1)) l.fn.table l.table l.base l.word
