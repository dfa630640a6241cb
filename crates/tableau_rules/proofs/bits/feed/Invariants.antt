use Rattle.std.proofs.Common.{◌≡◌, fold, flat_map, drop}
use Rattle.std.specs.Hash as fed
use Rattle.tableau_rules.proofs.bits.feed.Given as goal

-- what is still to be fed makes of the state what all the words make of the first state
abbrev pub invariant-words : goal.invariant-words
invariant-words g l = fold g.H.Hasher.write l.state (flat_map fed.u64 (drop l.word-index l.words)) ≡ fold g.H.Hasher.write l.initial.state (flat_map fed.u64 l.words)
