use Rattle.tableau_rules.specs.Links.{fulfils_at}
use Rattle.tableau_rules.proofs.level.sweep.Given as goal
use Rattle.tableau_rules.proofs.Passes.{Swept}

abbrev pub invariant-places : goal.invariant-places
invariant-places l = Swept l.links (fulfils_at l.links l.until) l.alive l.levels l.rest l.fn.left l.place
