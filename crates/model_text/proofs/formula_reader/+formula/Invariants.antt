use Rattle.std.proofs.Common.{◌≡◌, ℕ, ◌+◌, ◌*◌, ◌<◌, ◌≤◌, length}
use Rattle.state_space.specs.declared.keyword.Keyword.TheVariants as keywords
use Rattle.model_text.specs.RawTrees.{conj, disj}
use Rattle.model_text.specs.RawView.{raw_tree}
use Rattle.model_text.specs.Reading.{left, behind_keyword}
use Rattle.model_text.specs.FormulaReading.{tempo_with, and_with, or_with, prefix_at, chain}
use Rattle.model_text.proofs.formula_reader.+formula.Given as goal

abbrev pub decreases-primary : goal.decreases-primary
decreases-primary l = 10 * length (left l.cursor.now) + 0

abbrev pub decreases-simple : goal.decreases-simple
decreases-simple l = 10 * length (left l.cursor.now) + 1

abbrev pub decreases-enclosed : goal.decreases-enclosed
decreases-enclosed l = 10 * length (left l.cursor.now) + 9

abbrev pub decreases-prefix : goal.decreases-prefix
decreases-prefix l = 10 * length (left l.cursor.now) + 2

abbrev pub decreases-tempo : goal.decreases-tempo
decreases-tempo l = 10 * length (left l.cursor.now) + 3

abbrev pub decreases-and : goal.decreases-and
decreases-and l = 10 * length (left l.cursor.now) + 4

abbrev pub decreases-or : goal.decreases-or
decreases-or l = 10 * length (left l.cursor.now) + 5

abbrev pub decreases-implies : goal.decreases-implies
decreases-implies l = 10 * length (left l.cursor.now) + 6

abbrev pub decreases-iff_formula : goal.decreases-iff_formula
decreases-iff_formula l = 10 * length (left l.cursor.now) + 7

abbrev pub decreases-formula : goal.decreases-formula
decreases-formula l = 10 * length (left l.cursor.now) + 8

abbrev pub invariant-and-operands : goal.invariant-and-operands
invariant-and-operands l = record {
  so_far : (n : ℕ) × (length (left l.cursor) ≤ n) × (and_with (prefix_at l.depth) (left l.fn.cursor) ≡ chain (behind_keyword keywords.And) conj (tempo_with (prefix_at l.depth)) n (raw_tree l.formula) (left l.cursor));
  shorter : length (left l.cursor) < length (left l.fn.cursor);
}

abbrev pub decreases-and-operands : goal.decreases-and-operands
decreases-and-operands l = length (left l.cursor)

abbrev pub invariant-or-operands : goal.invariant-or-operands
invariant-or-operands l = record {
  so_far : (n : ℕ) × (length (left l.cursor) ≤ n) × (or_with (prefix_at l.depth) (left l.fn.cursor) ≡ chain (behind_keyword keywords.Or) disj (and_with (prefix_at l.depth)) n (raw_tree l.formula) (left l.cursor));
  shorter : length (left l.cursor) < length (left l.fn.cursor);
}

abbrev pub decreases-or-operands : goal.decreases-or-operands
decreases-or-operands l = length (left l.cursor)
