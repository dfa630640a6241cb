use Rattle.std.proofs.Common.{◌≡◌, ℕ, ◌≤◌, length, map}
use Rattle.model_tokens.specs.declared.token.Sign.TheVariants.{OpenBrace}
use Rattle.model_text.specs.Reading.{left}
use Rattle.model_text.specs.Statements.{settings_of}
use Rattle.model_text.specs.Readers.{more_at}
use Rattle.model_text.specs.StatementReading.{state_at, states_at}
use Rattle.model_text.proofs.trace_reader.states.Given as goal

abbrev pub invariant-states : goal.invariant-states
invariant-states l = record {
  so_far : (n : ℕ) × (length (left l.cursor) ≤ n) × (states_at (left l.fn.cursor) ≡ more_at OpenBrace state_at n (map settings_of l.states.items) (left l.cursor));
  shorter : length (left l.cursor) ≤ length (left l.fn.cursor);
}

abbrev pub decreases-states : goal.decreases-states
decreases-states l = length (left l.cursor)
