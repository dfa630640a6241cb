use Rattle.std.proofs.Common.{map}
use Rattle.goal_model.specs.Models.{link_of}
use Rattle.goal_model.specs.Marking.{AreRefinementsBelow}
use Rattle.goal_model.proofs.reachability.Refinements.of_links.Given as goal

abbrev pub invariant-links : goal.invariant-links
invariant-links l = AreRefinementsBelow (map link_of l.links) l.count l.place l.last.items l.before.items
