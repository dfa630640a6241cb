use Rattle.formula_table.specs.Closures.{closure_of}
use Rattle.tableau_rules.specs.QueryView.{cores_in}
use Rattle.tableau_rules.specs.GraphView.{graph_of}
use Rattle.tableau_rules.specs.Links.{fulfils_at, carries_at}
use Rattle.lasso_builder.specs.PlaceWalks.{Lap}
use Rattle.lasso_builder.proofs.walk.lap.Given as goal

abbrev pub invariant-formulas : goal.invariant-formulas
invariant-formulas l = Lap l.links (carries_at (closure_of (cores_in l.query)) (graph_of l.graph)) (fulfils_at l.links) l.formula l.alive l.fn.walk.items l.walk.items
