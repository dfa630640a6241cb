use Rattle.tableau_elimination.specs.Marks.{carrying_in, AreKilled}
use Rattle.tableau_elimination.proofs.kill.kill_waiting.Given as goal

abbrev pub invariant-places : goal.invariant-places
invariant-places l = AreKilled (carrying_in l.linked_graph l.until) l.until l.levels l.initial.alive l.alive l.initial.ranks l.ranks l.initial.causes l.causes l.left l.rest l.place
