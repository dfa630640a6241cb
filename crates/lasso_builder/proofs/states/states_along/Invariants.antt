use Rattle.std.proofs.Common.{◌≡◌, take}
use Rattle.temporal_logic.specs.Rows.{rows}
use Rattle.tableau_rules.specs.GraphView.{graph_of}
use Rattle.tableau_rules.specs.Walks.{states}
use Rattle.lasso_builder.specs.GraphPlaces.{nodes_at}
use Rattle.lasso_builder.proofs.states.states_along.Given as goal

abbrev pub invariant-places : goal.invariant-places
invariant-places l = rows l.along.items ≡ states (nodes_at (graph_of l.graph) (take l.place-index l.places))
