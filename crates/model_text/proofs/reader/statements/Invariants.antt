use Rattle.std.proofs.Common.{◌≡◌, ℕ, ◌+◌, ◌≤◌, length, vec_len}
use Rattle.model_text.specs.Reading.{left}
use Rattle.model_text.specs.Statements.{all_statements}
use Rattle.model_text.specs.StatementReading.{text_at, statements_at}
use Rattle.model_text.proofs.reader.statements.Given as goal

abbrev pub invariant-turns : goal.invariant-turns
invariant-turns l = record {
  fuel : (n : ℕ) × (length (left l.cursor) ≤ n) × (text_at (left l.fn.cursor) ≡ statements_at n (all_statements l.statements.items) (left l.cursor));
  count : vec_len l.statements + length (left l.cursor) ≤ length (left l.fn.cursor);
}

abbrev pub decreases-turns : goal.decreases-turns
decreases-turns l = length (left l.cursor)
