use Rattle.std.proofs.Common.{ap, ◌∙◌, flat_map, fold}
use Rattle.std.specs.Hash as fed
use Rattle.tableau_rules.specs.Words.{numbers_of, words_of}
use Rattle.tableau_rules.proofs.bits.BitsHash.hash.Goals as goal

pub returns : goal.returns
returns g c = c.feed.ensures.fed ∙ ap (λ s. fold g.H.Hasher.write c.args.state.now (flat_map fed.u64 (words_of s))) (ap numbers_of c.deref.ensures.value ∙ c.self.view_is)
