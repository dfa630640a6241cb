use Rattle.std.proofs.Common.{◌-◌, arith}
use Rattle.tableau_rules.specs.Links.{fulfils_at}
use Rattle.lasso_builder.proofs.Lowering.{lowered}
use Rattle.lasso_builder.proofs.level_table.polish.Goals as goal

pub places-preserved-then-best-own : goal.places-preserved-then-best-own
places-preserved-then-best-own c =
    lowered c.args.links.now (fulfils_at c.args.links.now c.args.until) c.args.alive.now c.places.levels (c.places.place - 1) c.best_level-best.result c.places.invariant (omega arith) c.if-own-count.true c.if-best-own.true
    (c.places.invariant.way (c.places.place - 1) (omega arith) c.if-own-count.true).0 c.best_level-best.ensures
