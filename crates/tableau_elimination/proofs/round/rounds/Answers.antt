use Rattle.std.proofs.Common.{refl}
use Rattle.tableau_rules.specs.Links.{fulfils_at}
use Rattle.tableau_elimination.specs.Marks.{carrying_in}
use Rattle.tableau_elimination.proofs.RoundSteps.{ended}
use Rattle.tableau_elimination.proofs.round.rounds.Goals as goal

pub returns-then-rest-left : goal.returns-then-rest-left
returns-then-rest-left c =
    ended c.args.linked_graph.now.links.now (carrying_in c.args.linked_graph.now) (fulfils_at c.args.linked_graph.now.links.now) c.round.new.alive c.round.new.ranks c.round.new.causes c.rounds.left c.in_ok-rest.rest _
    c.requires.ready.connected c.if-rest-left.true c.in_ok-rest.ensures refl
