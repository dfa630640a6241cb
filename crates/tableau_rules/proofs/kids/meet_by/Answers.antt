use Rattle.std.proofs.Common.{arith, bit_and, ap, ◌∙◌}
use Rattle.state_space.specs.declared.values.Values.{Values}
use Rattle.tableau_rules.specs.Turns.{sets_of}
use Rattle.tableau_rules.proofs.SetMeetings.{meet_at, meet_past, sets_length}
use Rattle.tableau_rules.proofs.kids.meet_by.Goals as goal

pub returns-then-place-len : goal.returns-then-place-len
returns-then-place-len c =
    let sets = c.args.now.now.items in
    let old = c.index.result.now in
    let set = c.in-Meets.set.0 in
    let met = c.meet.ensures.value ∙ ap (λ (v : Values). bit_and v.0 set) c.index.ensures in
    record { met = rw c.in-Meets.is (meet_at sets c.in-Meets.x.0 c.from-place.result set old c.meet.result c.from-place.ensures (omega arith) met) }

pub returns-else-place-len : goal.returns-else-place-len
returns-else-place-len c =
    let sets = c.args.now.now.items in
    let e = sets_length sets in
    record { met = rw c.in-Meets.is (meet_past (sets_of sets) c.in-Meets.x.0 c.in-Meets.set.0 (omega arith)) }
