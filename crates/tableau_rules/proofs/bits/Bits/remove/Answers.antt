use Rattle.std.proofs.Common.{ap, ◌∙◌}
use Rattle.tableau_rules.specs.Sets.{without_number}
use Rattle.tableau_rules.proofs.NumbersOfWords.{numbers_without}
use Rattle.tableau_rules.proofs.bits.Bits.remove.Goals as goal

pub returns : goal.returns
returns c =
    let x = c.args.number in
    numbers_without c.trim.new.words.items c.self.inside.words.items x (λ z. c.trim.ensures.bits z ∙ (c.clear_bit.ensures.bits z))
    ∙ ap (without_number x) c.self.view_is
