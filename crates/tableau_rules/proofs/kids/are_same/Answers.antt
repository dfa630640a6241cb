use Rattle.std.proofs.Common.{nat_eq, sym, ◌∙◌}
use Rattle.std.specs.Cmp.Derive.Mapped.{pointwise-map}
use Rattle.state_space.specs.declared.values.Values.{Values}
use Rattle.tableau_rules.specs.Turns.{sets_of}
use Rattle.tableau_rules.proofs.SetMeetings.{told_sets}
use Rattle.tableau_rules.proofs.kids.are_same.Goals as goal

pub returns : goal.returns
returns c =
    let a = c.args.a.now in
    let b = c.args.b.now in
    record { same = told_sets (sets_of a) (sets_of b) c.eq.result (c.eq.ensures ∙ sym (pointwise-map (λ (v : Values). v.0) nat_eq a b)) }
