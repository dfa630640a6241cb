use Rattle.tableau_rules.specs.Links.{fulfils_at}
use Rattle.tableau_elimination.specs.Marks.{carrying_in}
use Rattle.tableau_elimination.proofs.RoundSteps.{Going}
use Rattle.tableau_elimination.proofs.round.round.Given as goal

abbrev pub invariant-formulas : goal.invariant-formulas
invariant-formulas l = Going l.linked_graph.links.now (carrying_in l.linked_graph) (fulfils_at l.linked_graph.links.now) l.initial.alive l.alive l.ranks l.causes l.first l.rest l.formula
