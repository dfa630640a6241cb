use Rattle.std.proofs.Common.{ap, ◌∙◌}
use Rattle.tableau_rules.specs.Words.{numbers_of}
use Rattle.tableau_rules.proofs.NumbersOfWords.{numbers_of_none}
use Rattle.tableau_rules.proofs.bits.Bits.clear.Goals as goal

pub returns : goal.returns
returns c = ap numbers_of c.clear.ensures.items ∙ numbers_of_none
