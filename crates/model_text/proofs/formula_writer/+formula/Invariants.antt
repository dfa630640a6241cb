use Rattle.std.proofs.Common.{◌+◌, ◌*◌}
use Rattle.std.specs.Prelude.{max}
use Rattle.model_text.specs.declared.raw_formula.RawFormula.{size-RawFormula}
use Rattle.model_text.proofs.formula_writer.+formula.Given as goal

abbrev pub decreases-formula : goal.decreases-formula
decreases-formula l = 3 * size-RawFormula l.formula.now + 1

abbrev pub decreases-open_formula : goal.decreases-open_formula
decreases-open_formula l = 3 * size-RawFormula l.formula.now

abbrev pub decreases-prefixed : goal.decreases-prefixed
decreases-prefixed l = 3 * size-RawFormula l.operand.now + 2

abbrev pub decreases-tempo : goal.decreases-tempo
decreases-tempo l = 3 * max (size-RawFormula l.left.now) (size-RawFormula l.right.now) + 2

abbrev pub decreases-infix : goal.decreases-infix
decreases-infix l = 3 * max (size-RawFormula l.left.now) (size-RawFormula l.right.now) + 2

abbrev pub decreases-quantified : goal.decreases-quantified
decreases-quantified l = 3 * size-RawFormula l.body.now + 2
