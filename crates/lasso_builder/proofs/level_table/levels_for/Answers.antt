use Rattle.formula_table.specs.Closures.{closure_of}
use Rattle.tableau_rules.specs.QueryView.{cores_in}
use Rattle.tableau_rules.specs.GraphView.{graph_of}
use Rattle.tableau_rules.specs.Links.{fulfils_at, carries_at}
use Rattle.tableau_rules.specs.Levels.{HasLevels}
use Rattle.lasso_builder.specs.LevelTables.{LevelsFor}
use Rattle.lasso_builder.proofs.Lowering.{levels_of, if_ok}
use Rattle.lasso_builder.proofs.level_table.levels_for.Goals as goal

pub returns-then-is_carried : goal.returns-then-is_carried
returns-then-is_carried c =
    let carrying = carries_at (closure_of (cores_in c.args.query.now)) (graph_of c.args.graph.now) in
    if_ok (λ v. HasLevels c.args.links.now (fulfils_at c.args.links.now c.args.formula) c.args.alive.now v.items)
    (λ v. LevelsFor c.args.links.now carrying (fulfils_at c.args.links.now) c.args.alive.now c.args.formula v.items) c.near_levels.result
    (λ v h. levels_of c.args.links.now carrying (fulfils_at c.args.links.now) c.args.alive.now c.args.formula v.items c.requires.range c.requires.survives h) c.near_levels.ensures
