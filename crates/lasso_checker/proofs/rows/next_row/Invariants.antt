use Rattle.std.proofs.Common.{◌≡◌, ◌+◌, ◌/◌, ◌<◌}
use Rattle.lasso_checker.specs.Places.{bit_of}
use Rattle.lasso_checker.proofs.WordRows.{Worked}
use Rattle.lasso_checker.proofs.rows.next_row.Given as goal

abbrev pub invariant-row : goal.invariant-row
invariant-row l = Worked (λ q. (bit_of l.fn.table l.base (q + 1) ≡ 1) × ((q + 1) / 64 < l.layout.words)) l.fn.table l.table l.base l.word
