use Rattle.std.proofs.Common.{arith, inl, inr, ◌*◌}
use Rattle.std.proofs.lemmas.Bool.{cases_lt}
use Rattle.tableau_rules.proofs.CommonNumbers.{first_common, no_common}
use Rattle.tableau_rules.proofs.bits.first_of_both.Goals as goal

pub returns-in-Some : goal.returns-in-Some
returns-in-Some c =
    let h = c.in-Some.ensures.some in
    first_common c.args.a.now c.args.b.now c.in-Some.number h.2 (λ z l. elim (cases_lt z (64 * c.loop-at.at)) [ inl m ↦ c.loop-at.invariant z m | inr g ↦ h.3 z g l ])

pub returns : goal.returns
returns c = no_common c.args.a.now c.args.b.now c.loop-at.at (omega arith) c.loop-at.invariant
