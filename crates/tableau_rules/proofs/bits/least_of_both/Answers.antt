use Rattle.std.proofs.Common.{refl}
use Rattle.tableau_rules.proofs.CommonNumbers.{both_some, both_none, both_at}
use Rattle.tableau_rules.proofs.bits.least_of_both.Goals as goal

pub returns-in-Some-clause-some : goal.returns-in-Some-clause-some
returns-in-Some-clause-some c =
    let h = c.in-Some.ensures.some in
    both_some c.args.a.now c.args.b.now c.args.at _ (both_at c.args.a.now c.args.b.now c.args.at _ _ c.requires.a c.requires.b) c.in-Some.bit _ refl h.1 h.2 h.3

pub returns-in-None-clause-none : goal.returns-in-None-clause-none
returns-in-None-clause-none c = both_none c.args.a.now c.args.b.now c.args.at _ (both_at c.args.a.now c.args.b.now c.args.at _ _ c.requires.a c.requires.b) c.in-None.ensures.none
