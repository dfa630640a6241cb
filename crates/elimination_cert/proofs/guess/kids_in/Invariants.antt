use Rattle.std.proofs.Common.{◌≡◌, ◌++◌, ◌-◌, ◌≤◌, length, map, take}
use Rattle.elimination_cert.specs.Guesses.{pieces, listed_in, number_in}
use Rattle.elimination_cert.proofs.guess.kids_in.Given as goal

abbrev pub invariant-pieces : goal.invariant-pieces
invariant-pieces l = record {
  kids : l.kids.items ++ take (2 - length l.kids.items) (map number_in (pieces 44 l.rest)) ≡ take 2 (map number_in (pieces 44 (listed_in l.bytes)));
  few : length l.kids.items ≤ 2;
}

abbrev pub decreases-pieces : goal.decreases-pieces
decreases-pieces l = length l.rest
