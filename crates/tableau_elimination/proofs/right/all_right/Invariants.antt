use Rattle.std.proofs.Common.{ℕ, ◌<◌}
use Rattle.tableau_rules.specs.Links.{fulfils_at}
use Rattle.tableau_elimination.specs.Marks.{carrying_in, Gone}
use Rattle.tableau_elimination.proofs.RightMarks.{IsFound}
use Rattle.tableau_elimination.proofs.right.all_right.Given as goal

abbrev pub invariant-places : goal.invariant-places
invariant-places l = (k : ℕ) → k < l.place → Gone l.alive k
    → IsFound l.linked_graph.links.now (carrying_in l.linked_graph) (fulfils_at l.linked_graph.links.now) l.alive l.ranks l.causes l.left k
