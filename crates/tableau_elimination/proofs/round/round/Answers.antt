use Rattle.std.proofs.Common.{arith}
use Rattle.formula_table.specs.Closures.{closure_of}
use Rattle.tableau_rules.specs.QueryView.{cores_in}
use Rattle.tableau_rules.specs.GraphView.{graph_of}
use Rattle.tableau_rules.specs.Links.{fulfils_at}
use Rattle.tableau_elimination.specs.Marks.{carrying_in}
use Rattle.tableau_elimination.proofs.Places.{carried_below}
use Rattle.tableau_elimination.proofs.RoundSteps.{going_start, going_end}
use Rattle.tableau_elimination.proofs.round.round.Goals as goal

pub formulas-init : goal.formulas-init
formulas-init c =
    going_start c.args.linked_graph.now.links.now (carrying_in c.args.linked_graph.now) (fulfils_at c.args.linked_graph.now.links.now) c.args.alive.now c.clear-first.new.alive c.clear-first.new.ranks c.clear-first.new.causes c.args.left c.clear-first.result (c.clear-first.ensures (carrying_in c.args.linked_graph.now) c.requires.marked)

pub returns : goal.returns
returns c =
    going_end c.args.linked_graph.now.links.now (carrying_in c.args.linked_graph.now) (fulfils_at c.args.linked_graph.now.links.now) c.args.alive.now c.clear-first.new.alive c.formulas.alive c.clear-first.new.ranks c.formulas.ranks
    c.clear-first.new.causes c.formulas.causes c.args.left c.clear-first.result c.formulas.rest c.formulas.formula
    (λ d k h. let b = carried_below (closure_of (cores_in c.args.linked_graph.now.query.now)) (graph_of c.args.linked_graph.now.graph.now) d k h in omega (arith, b))
    (c.clear-first.ensures (carrying_in c.args.linked_graph.now) c.requires.marked) c.formulas.invariant
