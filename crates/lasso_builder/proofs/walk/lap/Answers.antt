use Rattle.std.proofs.Common.{arith}
use Rattle.formula_table.specs.Closures.{closure_of}
use Rattle.tableau_rules.specs.QueryView.{cores_in}
use Rattle.tableau_rules.specs.GraphView.{graph_of}
use Rattle.tableau_rules.specs.Links.{fulfils_at, carries_at}
use Rattle.lasso_builder.proofs.Laps.{lap_leg}
use Rattle.lasso_builder.proofs.walk.lap.Goals as goal

pub leg-requires-clause-levels : goal.leg-requires-clause-levels
leg-requires-clause-levels c = rw c.deref.ensures.value (c.requires.levels c.formulas.formula c.index-table-formula.result (omega arith) c.index-table-formula.is)

pub formulas-preserved : goal.formulas-preserved
formulas-preserved c =
    lap_leg c.args.links.now (carries_at (closure_of (cores_in c.args.query.now)) (graph_of c.args.graph.now)) (fulfils_at c.args.links.now) c.formulas.formula c.args.alive.now c.args.walk.now.items c.formulas.walk.items
    c.leg.new.walk.items c.formulas.invariant c.in_ok-leg.ensures
