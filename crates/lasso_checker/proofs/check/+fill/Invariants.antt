use Rattle.std.proofs.Common.{◌+◌, ◌*◌}
use Rattle.std.specs.Prelude.{max}
use Rattle.temporal_logic.proofs.formula.Formula.TheLaws.{the_size}
use Rattle.lasso_checker.proofs.check.+fill.Given as goal

abbrev pub decreases-fill : goal.decreases-fill
decreases-fill l = 2 * the_size l.f.now

abbrev pub decreases-fill_unary : goal.decreases-fill_unary
decreases-fill_unary l = 2 * the_size l.a.now + 1

abbrev pub decreases-fill_binary : goal.decreases-fill_binary
decreases-fill_binary l = 2 * max (the_size l.a.now) (the_size l.b.now) + 1
