use Rattle.std.proofs.Common.{◌≡◌, ℕ, ◌≤◌, ◌<◌, length}
use Rattle.model_tokens.specs.declared.token.Sign.TheVariants.{Comma}
use Rattle.model_text.specs.Reading.{left, name_at}
use Rattle.model_text.specs.Readers.{more_at}
use Rattle.model_text.specs.StatementReading.{names_at}
use Rattle.model_text.proofs.part_reader.names.Given as goal

abbrev pub invariant-names : goal.invariant-names
invariant-names l = record {
  shorter : length (left l.cursor) < length (left l.fn.cursor);
  fuel : (n : ℕ) × (length (left l.cursor) ≤ n) × (names_at (left l.fn.cursor) ≡ more_at Comma name_at n l.names.items (left l.cursor));
}

abbrev pub decreases-names : goal.decreases-names
decreases-names l = length (left l.cursor)
