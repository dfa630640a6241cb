use Rattle.std.proofs.Common.{ℕ, ◌<◌, ◌≡◌, false}
use Rattle.formula_table.specs.Closures.{closure_of}
use Rattle.tableau_rules.specs.QueryView.{cores_in}
use Rattle.tableau_rules.specs.GraphView.{graph_of}
use Rattle.tableau_rules.specs.Links.{carries_at}
use Rattle.tableau_rules.specs.Levels.{Alive}
use Rattle.lasso_builder.proofs.level_table.is_carried.Given as goal

abbrev pub invariant-places : goal.invariant-places
invariant-places l = (k : ℕ) → k < l.place → Alive l.alive k → carries_at (closure_of (cores_in l.query)) (graph_of l.graph) l.formula k ≡ false
