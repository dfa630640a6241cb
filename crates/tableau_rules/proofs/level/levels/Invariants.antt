use Rattle.tableau_rules.specs.Links.{fulfils_at}
use Rattle.tableau_rules.specs.Levels.{Levelling}
use Rattle.tableau_rules.proofs.level.levels.Given as goal

abbrev pub invariant-passes : goal.invariant-passes
invariant-passes l = Levelling l.links (fulfils_at l.links l.until) l.alive l.levels.items l.rest

abbrev pub decreases-passes : goal.decreases-passes
decreases-passes l = l.rest
