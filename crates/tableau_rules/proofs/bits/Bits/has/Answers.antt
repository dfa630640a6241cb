use Rattle.std.proofs.Common.{ap, ◌∙◌, sym}
use Rattle.tableau_rules.specs.Sets.{has_number}
use Rattle.tableau_rules.specs.Words.{has_bit}
use Rattle.tableau_rules.proofs.NumbersOfWords.{has_numbers_of}
use Rattle.tableau_rules.proofs.bits.Bits.has.Goals as goal

pub returns : goal.returns
returns c = c.get_bit.ensures ∙ (ap (λ ws. has_bit ws c.args.number) c.deref.ensures.value ∙ (sym (has_numbers_of c.self.inside.words.items c.args.number) ∙ ap (λ zs. has_number zs c.args.number) c.self.view_is))
