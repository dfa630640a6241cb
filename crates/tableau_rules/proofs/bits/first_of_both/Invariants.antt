use Rattle.std.proofs.Common.{ℕ, ◌≡◌, ◌<◌, ◌*◌, ◌&&◌, false}
use Rattle.tableau_rules.specs.Words.{has_bit}
use Rattle.tableau_rules.proofs.bits.first_of_both.Given as goal

abbrev pub invariant-loop-at : goal.invariant-loop-at
invariant-loop-at l = (z : ℕ) → z < 64 * l.at → (has_bit l.a z && has_bit l.b z) ≡ false
