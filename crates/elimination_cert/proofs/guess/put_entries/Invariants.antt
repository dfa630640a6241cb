use Rattle.std.proofs.Common.{◌≡◌, length}
use Rattle.state_space.specs.Spaces.{sizes}
use Rattle.tableau_rules.specs.Turns.{sets_of}
use Rattle.elimination_cert.specs.Guesses.{pieces, with_entries}
use Rattle.elimination_cert.proofs.guess.put_entries.Given as goal

abbrev pub invariant-pieces : goal.invariant-pieces
invariant-pieces l = with_entries (sizes l.space) (pieces 44 l.rest) (sets_of l.now) ≡ with_entries (sizes l.space) (pieces 44 l.bytes) (sets_of l.fn.now)

abbrev pub decreases-pieces : goal.decreases-pieces
decreases-pieces l = length l.rest
