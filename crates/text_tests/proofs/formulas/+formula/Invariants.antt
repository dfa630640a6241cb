use Rattle.std.proofs.Common.{length}
use Rattle.text_tests.proofs.formulas.+formula.Given as goal

abbrev pub decreases-formula : goal.decreases-formula
decreases-formula l = length l.text.now
