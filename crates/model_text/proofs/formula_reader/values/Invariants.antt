use Rattle.std.proofs.Common.{◌≡◌, ℕ, ◌<◌, ◌≤◌, length, map}
use Rattle.model_text.specs.RawView.{written}
use Rattle.model_text.specs.Reading.{left}
use Rattle.model_text.specs.FormulaReading.{values_at, more_values_at}
use Rattle.model_text.proofs.formula_reader.values.Given as goal

abbrev pub invariant-values : goal.invariant-values
invariant-values l = record {
  so_far : (n : ℕ) × (length (left l.cursor) ≤ n) × (values_at (left l.fn.cursor) ≡ more_values_at n (map written l.values.items) (left l.cursor));
  shorter : length (left l.cursor) < length (left l.fn.cursor);
}

abbrev pub decreases-values : goal.decreases-values
decreases-values l = length (left l.cursor)
