use Rattle.std.proofs.Common.{length, ◌≡◌}
use Rattle.formula_table.specs.Closures.{closure_of}
use Rattle.tableau_rules.specs.QueryView.{cores_in}
use Rattle.tableau_rules.specs.GraphView.{graph_of}
use Rattle.tableau_rules.specs.Links.{fulfils_at, carries_at}
use Rattle.lasso_builder.specs.LevelTables.{AllLevels}
use Rattle.lasso_builder.proofs.level_table.level_table.Given as goal

abbrev pub invariant-formulas : goal.invariant-formulas
invariant-formulas l = record {
  levels : AllLevels l.links (carries_at (closure_of (cores_in l.query)) (graph_of l.graph)) (fulfils_at l.links) l.alive l.table.items;
  size : length l.table.items ≡ l.formula;
}
