use Rattle.std.proofs.Common.{ap, ◌==◌, ◌||◌, ◌∙◌}
use Rattle.tableau_rules.specs.Sets.{with_number}
use Rattle.tableau_rules.proofs.NumbersOfWords.{numbers_with}
use Rattle.tableau_rules.proofs.bits.Bits.add.Goals as goal

pub returns-clause-added : goal.returns-clause-added
returns-clause-added c =
    let x = c.args.number in
    numbers_with c.set_bit.new.words.items c.self.inside.words.items x (λ z. c.set_bit.ensures.bits z ∙ ap (λ b. z == x || b) (c.in_ok-make_room.ensures.bits z))
    ∙ ap (with_number x) c.self.view_is
