use Rattle.tableau_rules.specs.Links.{fulfils_at}
use Rattle.tableau_elimination.specs.Marks.{carrying_in, AreMarked}
use Rattle.tableau_elimination.proofs.round.rounds.Given as goal

abbrev pub invariant-rounds : goal.invariant-rounds
invariant-rounds l = AreMarked l.linked_graph.links.now (carrying_in l.linked_graph) (fulfils_at l.linked_graph.links.now) l.alive l.ranks l.causes l.left

abbrev pub decreases-rounds : goal.decreases-rounds
decreases-rounds l = l.left
