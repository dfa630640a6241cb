use Rattle.std.proofs.Common.{ℕ, Bool}
use Rattle.tableau_rules.specs.Links.{fulfils_at}
use Rattle.tableau_elimination.specs.Marks.{AreMarked, AreCleared}
use Rattle.tableau_elimination.proofs.kill.clear.Given as goal

abbrev pub invariant-places : goal.invariant-places
invariant-places l = (carrying : ℕ → ℕ → Bool) → AreMarked l.links carrying (fulfils_at l.links) l.initial.alive l.initial.ranks l.initial.causes l.left
    → AreCleared l.links carrying (fulfils_at l.links) l.initial.alive l.alive l.ranks l.causes l.left l.rest l.place
