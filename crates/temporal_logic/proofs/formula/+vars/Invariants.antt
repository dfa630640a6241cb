use Rattle.std.proofs.Common.{◌+◌, ◌*◌}
use Rattle.std.specs.Prelude.{max}
use Rattle.temporal_logic.specs.declared.formula.Formula.{size-Formula}
use Rattle.temporal_logic.proofs.formula.+vars.Given as goal

abbrev pub decreases-Formula::vars : goal.decreases-Formula::vars
decreases-Formula::vars l = 2 * size-Formula l.self.now

abbrev pub decreases-vars_of_both : goal.decreases-vars_of_both
decreases-vars_of_both l = 2 * max (size-Formula l.a.now) (size-Formula l.b.now) + 1
