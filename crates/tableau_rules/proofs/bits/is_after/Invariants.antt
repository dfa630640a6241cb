use Rattle.std.proofs.Common.{ℕ, ◌≡◌, ◌<◌, ◌*◌}
use Rattle.tableau_rules.specs.Words.{has_bit, bit_after}
use Rattle.tableau_rules.proofs.bits.is_after.Given as goal

abbrev pub invariant-loop-at : goal.invariant-loop-at
invariant-loop-at l = (z : ℕ) → z < 64 * l.at → has_bit l.new z ≡ bit_after l.gone l.first l.second z (has_bit l.old z)
