use Rattle.std.proofs.Common.{map}
use Rattle.state_space.specs.Spaces.{sizes}
use Rattle.tableau_rules.specs.NodeView.{node_of}
use Rattle.tableau_rules.specs.QueryView.{cores_in}
use Rattle.tableau_graph.specs.Places.{IsPlaced, IsKidPlace}
use Rattle.tableau_graph.proofs.Puts.{got_form}
use Rattle.tableau_graph.proofs.Growth.{below_at, kid_placed, if_ok}
use Rattle.tableau_graph.proofs.exploration.kid_place.Goals as goal

pub make_kid-requires-clause-turn : goal.make_kid-requires-clause-turn
make_kid-requires-clause-turn c = c.requires.turn (node_of c.index.result.now) (got_form c.args.nodes.now.keys c.args.at c.index.result.now c.index.ensures)

pub make_kid-requires-clause-which : goal.make_kid-requires-clause-which
make_kid-requires-clause-which c = c.requires.which (node_of c.index.result.now) (got_form c.args.nodes.now.keys c.args.at c.index.result.now c.index.ensures)

pub returns : goal.returns
returns c =
    let old = map node_of c.args.nodes.now.keys in
    let new = map node_of c.place.new.nodes.keys in
    let made = node_of c.make_kid.new.kid in
    if_ok (IsPlaced c.args.budget old new made) (IsKidPlace (sizes c.args.space.now) (cores_in c.args.query.now) c.args.budget old new c.args.at c.args.which) c.place.result
    (λ p h. kid_placed (sizes c.args.space.now) (cores_in c.args.query.now) c.args.budget old new c.args.at c.args.which (node_of c.index.result.now) made p c.requires.within
    (got_form c.args.nodes.now.keys c.args.at c.index.result.now c.index.ensures) c.in_ok-make_kid.ensures.kid h)
    c.place.ensures
