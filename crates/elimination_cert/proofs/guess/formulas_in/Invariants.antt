use Rattle.std.proofs.Common.{◌≡◌, [], length}
use Rattle.elimination_cert.specs.Guesses.{pieces, listed_in, with_all}
use Rattle.elimination_cert.proofs.guess.formulas_in.Given as goal

abbrev pub invariant-pieces : goal.invariant-pieces
invariant-pieces l = with_all (pieces 44 l.rest) l.formulas ≡ with_all (pieces 44 (listed_in l.bytes)) []

abbrev pub decreases-pieces : goal.decreases-pieces
decreases-pieces l = length l.rest
