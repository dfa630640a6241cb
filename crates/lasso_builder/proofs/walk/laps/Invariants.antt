use Rattle.std.proofs.Common.{length}
use Rattle.formula_table.specs.Closures.{closure_of}
use Rattle.tableau_rules.specs.QueryView.{cores_in}
use Rattle.tableau_rules.specs.GraphView.{graph_of}
use Rattle.tableau_rules.specs.Links.{fulfils_at, carries_at}
use Rattle.lasso_builder.specs.PlaceWalks.{IsLapped, unbegun}
use Rattle.lasso_builder.proofs.walk.laps.Given as goal

abbrev pub invariant-laps : goal.invariant-laps
invariant-laps l = IsLapped l.links (carries_at (closure_of (cores_in l.query)) (graph_of l.graph)) (fulfils_at l.links) (length (closure_of (cores_in l.query))) l.alive l.begun l.walk.items

abbrev pub decreases-laps : goal.decreases-laps
decreases-laps l = unbegun l.begun
