use Rattle.std.proofs.Common.{ℕ, ◌≡◌, ◌≤◌, ◌<◌, ◌*◌, false}
use Rattle.tableau_rules.specs.Words.{has_bit}
use Rattle.tableau_rules.proofs.bits.least_in.Given as goal

abbrev pub invariant-loop-at : goal.invariant-loop-at
invariant-loop-at l = (z : ℕ) → l.from ≤ z → z < 64 * l.at → has_bit l.words z ≡ false
