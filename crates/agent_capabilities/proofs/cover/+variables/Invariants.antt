use Rattle.std.proofs.Common.{◌+◌, ◌*◌}
use Rattle.std.specs.Prelude.{max}
use Rattle.temporal_logic.specs.declared.formula.Formula.{size-Formula}
use Rattle.agent_capabilities.proofs.cover.+variables.Given as goal

abbrev pub decreases-first : goal.decreases-first
decreases-first l = 2 * size-Formula l.f.now

abbrev pub decreases-first_of_both : goal.decreases-first_of_both
decreases-first_of_both l = 2 * max (size-Formula l.a.now) (size-Formula l.b.now) + 1
