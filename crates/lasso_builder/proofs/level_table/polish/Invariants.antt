use Rattle.tableau_rules.specs.Links.{fulfils_at}
use Rattle.tableau_rules.specs.Levels.{HasLevels}
use Rattle.lasso_builder.proofs.level_table.polish.Given as goal

abbrev pub invariant-places : goal.invariant-places
invariant-places l = HasLevels l.links (fulfils_at l.links l.until) l.alive l.levels
