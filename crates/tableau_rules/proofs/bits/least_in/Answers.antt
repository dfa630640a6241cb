use Rattle.std.proofs.Common.{arith, sym, inl, inr, ◌*◌}
use Rattle.tableau_rules.proofs.NumbersOfWords.{least_of_some, least_of_none, past_none}
use Rattle.std.proofs.lemmas.Bool.{cases_lt}
use Rattle.tableau_rules.proofs.bits.least_in.Goals as goal

pub returns-in-Some : goal.returns-in-Some
returns-in-Some c =
    let h = c.in-Some.ensures.some in
    sym (least_of_some c.args.words.now c.args.from c.in-Some.number h.2 h.0 (λ z a b. elim (cases_lt z (64 * c.loop-at.at)) [ inl l ↦ c.loop-at.invariant z a l | inr g ↦ h.3 z a g b ]))

pub returns : goal.returns
returns c = sym (least_of_none c.args.words.now c.args.from (λ z a. elim (cases_lt z (64 * c.loop-at.at)) [ inl l ↦ c.loop-at.invariant z a l | inr g ↦ past_none c.args.words.now z (omega arith) ]))
