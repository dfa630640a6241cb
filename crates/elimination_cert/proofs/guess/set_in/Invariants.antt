use Rattle.std.proofs.Common.{◌≡◌, length}
use Rattle.elimination_cert.specs.Guesses.{pieces, with_values}
use Rattle.elimination_cert.proofs.guess.set_in.Given as goal

abbrev pub invariant-pieces : goal.invariant-pieces
invariant-pieces l = with_values l.size (pieces 43 l.rest) l.set.0 ≡ with_values l.size (pieces 43 l.bytes) 0

abbrev pub decreases-pieces : goal.decreases-pieces
decreases-pieces l = length l.rest
