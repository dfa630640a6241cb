use Rattle.std.proofs.Common.{ℕ, ◌≡◌, ◌≤◌, vec_len}
use Rattle.tableau_rules.specs.Words.{has_bit}
use Rattle.tableau_rules.proofs.bits.trim.Given as goal

abbrev pub invariant-loop-words : goal.invariant-loop-words
invariant-loop-words l = ((z : ℕ) → has_bit l.words.items z ≡ has_bit l.initial.words.items z) × (vec_len l.words ≤ vec_len l.initial.words)

abbrev pub decreases-loop-words : goal.decreases-loop-words
decreases-loop-words l = vec_len l.words
