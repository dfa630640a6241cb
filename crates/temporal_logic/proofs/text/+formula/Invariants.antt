use Rattle.std.proofs.Common.{◌+◌, ◌*◌}
use Rattle.std.specs.Prelude.{max}
use Rattle.temporal_logic.specs.declared.formula.Formula.{size-Formula}
use Rattle.temporal_logic.proofs.text.+formula.Given as goal

abbrev pub decreases-put_formula : goal.decreases-put_formula
decreases-put_formula l = 3 * size-Formula l.f.now + 1

abbrev pub decreases-put_open : goal.decreases-put_open
decreases-put_open l = 3 * size-Formula l.f.now

abbrev pub decreases-put_prefixed : goal.decreases-put_prefixed
decreases-put_prefixed l = 3 * size-Formula l.operand.now + 2

abbrev pub decreases-put_tempo : goal.decreases-put_tempo
decreases-put_tempo l = 3 * max (size-Formula l.first.now) (size-Formula l.second.now) + 2

abbrev pub decreases-put_infix : goal.decreases-put_infix
decreases-put_infix l = 3 * max (size-Formula l.first.now) (size-Formula l.second.now) + 2
