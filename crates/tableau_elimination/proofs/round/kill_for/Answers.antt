use Rattle.std.proofs.Common.{sym, ◌∙◌}
use Rattle.formula_table.specs.Closures.{closure_of}
use Rattle.tableau_rules.specs.QueryView.{cores_in}
use Rattle.tableau_rules.specs.GraphView.{graph_of}
use Rattle.tableau_rules.specs.Links.{fulfils_at}
use Rattle.tableau_elimination.specs.Marks.{carrying_in}
use Rattle.tableau_elimination.proofs.Places.{none_carries}
use Rattle.tableau_elimination.proofs.RoundSteps.{none_waits}
use Rattle.tableau_elimination.proofs.round.kill_for.Goals as goal

pub returns-else-is_until : goal.returns-else-is_until
returns-else-is_until c =
    none_waits c.args.linked_graph.now.links.now (carrying_in c.args.linked_graph.now) (fulfils_at c.args.linked_graph.now.links.now) c.args.formula c.args.alive.now c.args.ranks.now c.args.causes.now c.args.left
    c.requires.marked c.requires.leafless
    (λ k l a. none_carries (closure_of (cores_in c.args.linked_graph.now.query.now)) (graph_of c.args.linked_graph.now.graph.now) c.args.formula k (sym c.is_until.ensures ∙ c.if-is_until.false))
