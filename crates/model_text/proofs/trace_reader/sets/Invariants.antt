use Rattle.std.proofs.Common.{◌≡◌, ℕ, ◌<◌, ◌≤◌, length, map}
use Rattle.model_tokens.specs.declared.token.Sign.TheVariants.{Comma}
use Rattle.model_text.specs.Reading.{left}
use Rattle.model_text.specs.Readers.{listed_at, more_at}
use Rattle.model_text.specs.StatementReading.{setting_of, set_at}
use Rattle.model_text.proofs.trace_reader.sets.Given as goal

abbrev pub invariant-sets : goal.invariant-sets
invariant-sets l = record {
  so_far : (n : ℕ) × (length (left l.cursor) ≤ n) × (listed_at set_at (left l.fn.cursor) ≡ more_at Comma set_at n (map setting_of l.sets.items) (left l.cursor));
  shorter : length (left l.cursor) < length (left l.fn.cursor);
}

abbrev pub decreases-sets : goal.decreases-sets
decreases-sets l = length (left l.cursor)
