use Rattle.std.proofs.Common.{◌≡◌, ◌+◌}
use Rattle.lasso_checker.specs.Places.{bit_of}
use Rattle.lasso_checker.specs.Operators.{Steps}
use Rattle.lasso_checker.proofs.WordRows.{Worked}
use Rattle.lasso_checker.proofs.rows.step_rows.Given as goal

abbrev pub invariant-row : goal.invariant-row
invariant-row l = Worked (λ q. Steps l.waiting (bit_of l.fn.table l.base q ≡ 1) (bit_of l.fn.table (l.base + l.layout.words) q ≡ 1) (bit_of l.fn.table (l.base + l.layout.words + l.layout.words) q ≡ 1)) l.fn.table l.table l.third l.word
