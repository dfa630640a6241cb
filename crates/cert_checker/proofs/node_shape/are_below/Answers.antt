use Rattle.std.proofs.Common.{sym, ◌∙◌}
use Rattle.cert_checker.proofs.Shapes.{none_below, some_below}
use Rattle.cert_checker.proofs.node_shape.are_below.Goals as goal

pub returns-in-Some : goal.returns-in-Some
returns-in-Some c = record { below = some_below c.args.bound _ c.args.set.now (sym c.least_from.ensures.least ∙ c.in-Some.is); ascending = c.least_from.ensures.ascending }

pub returns-in-None : goal.returns-in-None
returns-in-None c = record { below = none_below c.args.bound c.args.set.now (sym c.least_from.ensures.least ∙ c.in-None.is); ascending = c.least_from.ensures.ascending }
