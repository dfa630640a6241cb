-- What an exploration of a query may find.
use Rattle.std.specs.Prelude.{◌≡◌, ℕ, ◌≤◌, List, length}
use Rattle.bound_unfolding.specs.CoreForm.{CoreForm}
use Rattle.tableau_rules.specs.Graphs.{IsLarger, IsWhole}
use Rattle.tableau_rules.specs.GraphView.{graph_of}
use Rattle.tableau_graph.specs.declared.exploration.Explored.{Explored}
use Rattle.tableau_graph.specs.declared.exploration.Explored.TheVariants.{Over, Whole}

-- within the budget the whole graph, else nothing but the budget
abbrev pub IsExploration : List ℕ → List CoreForm → ℕ → Explored → Type 0
IsExploration sizes cores budget (Over number) = (number ≡ budget) × IsLarger sizes cores budget
IsExploration sizes cores budget (Whole graph) = (length (graph_of graph) ≤ budget) × IsWhole sizes cores (graph_of graph)
