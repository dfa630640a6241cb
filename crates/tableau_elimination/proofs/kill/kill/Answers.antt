use Rattle.std.proofs.Common.{◌≡◌}
use Rattle.tableau_rules.specs.Links.{fulfils_at}
use Rattle.tableau_elimination.specs.Marks.{carrying_in}
use Rattle.tableau_elimination.proofs.WaitSteps.{waited}
use Rattle.tableau_elimination.proofs.kill.kill.Goals as goal

pub returns : goal.returns
returns c =
    let lv = c.in_ok-levels.levels.items in
    let v : c.deref.result.now ≡ lv = c.deref.ensures.value in
    let k = rw v at c.kill_waiting.ensures in
    waited c.args.linked_graph.now.links.now (carrying_in c.args.linked_graph.now) (fulfils_at c.args.linked_graph.now.links.now) c.args.until lv c.args.alive.now c.kill_waiting.new.alive c.args.ranks.now c.kill_waiting.new.ranks c.args.causes.now c.kill_waiting.new.causes c.args.left c.kill_waiting.result
    c.requires.ready.connected c.requires.marked c.requires.leafless c.in_ok-levels.ensures k
