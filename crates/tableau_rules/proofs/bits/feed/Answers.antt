use Rattle.std.proofs.Common.{ap, sym, ◌∙◌, flat_map, fold, arith}
use Rattle.std.specs.Hash as fed
use Rattle.std.proofs.lemmas.List.{at_drop_all}
use Rattle.tableau_rules.proofs.WordsOfNumbers.{words_of_numbers}
use Rattle.tableau_rules.proofs.bits.feed.Goals as goal

pub returns : goal.returns
returns g c =
    let all = c.args.words.now in
    let words = words_of_numbers all c.requires (λ k. let f = c.type_inv.words k in omega arith) in
    let end = at_drop_all (λ ws. fold g.H.Hasher.write c.words.state (flat_map fed.u64 ws)) all c.words.word-index (omega arith) in
    record { fed = sym end ∙ (c.words.invariant ∙ ap (λ w. fold g.H.Hasher.write c.args.state.now (flat_map fed.u64 w)) (sym words)) }
