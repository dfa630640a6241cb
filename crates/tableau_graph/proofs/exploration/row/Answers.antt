use Rattle.std.proofs.Common.{◌<◌, ◌+◌, length, map, subst, ◌∙◌, arith}
use Rattle.std.specs.Prelude.{slice_get}
use Rattle.std.proofs.lemmas.Option.{slice_get_within}
use Rattle.state_space.specs.Spaces.{sizes}
use Rattle.state_space.specs.Members.{full_of}
use Rattle.tableau_rules.specs.NodeView.{node_of}
use Rattle.tableau_rules.specs.QueryView.{cores_in}
use Rattle.formula_table.specs.Closures.{closure_of}
use Rattle.tableau_rules.specs.NodeTurns.{IsTurnOf}
use Rattle.tableau_rules.proofs.Sizes.{map_length}
use Rattle.tableau_graph.specs.Places.{kids_in, IsKidPlace}
use Rattle.tableau_graph.proofs.Puts.{got_form}
use Rattle.tableau_graph.proofs.Growth.{same_some, below_at, row_more, row_all}
use Rattle.tableau_graph.proofs.exploration.row.Goals as goal

pub turn-turn-requires : goal.turn-turn-requires
turn-turn-requires c = below_at (sizes c.args.space.now) (cores_in c.args.query.now) c.args.nodes.now.keys c.args.at c.index.result.now c.requires.within.are c.index.ensures

pub kid_place-requires-clause-at : goal.kid_place-requires-clause-at
kid_place-requires-clause-at c =
    let x = node_of c.index.result.now in
    let now = map node_of c.kids.nodes.keys in
    let l = slice_get_within now c.args.at x (c.kids.invariant.keeps.keeps c.args.at x (got_form c.args.nodes.now.keys c.args.at c.index.result.now c.index.ensures)) in
    let e = map_length node_of c.kids.nodes.keys in
    omega (arith, l, e)

pub kid_place-requires-clause-which : goal.kid_place-requires-clause-which
kid_place-requires-clause-which c = λ n h.
    let x = node_of c.index.result.now in
    let now = map node_of c.kids.nodes.keys in
    let e = same_some x n (slice_get now c.args.at) (c.kids.invariant.keeps.keeps c.args.at x (got_form c.args.nodes.now.keys c.args.at c.index.result.now c.index.ensures)) h in
    let t = c.kids-test.true in
    let k = c.kid_count-which-end.ensures.count ∙ c.turn-turn.ensures.count (full_of (sizes c.args.space.now)) in
    let w : c.kids.which < length (kids_in (sizes c.args.space.now) (cores_in c.args.query.now) x) = omega (arith, t, k) in
    subst (λ y. c.kids.which < length (kids_in (sizes c.args.space.now) (cores_in c.args.query.now) y)) e w

pub kid_place-requires-clause-turn : goal.kid_place-requires-clause-turn
kid_place-requires-clause-turn c = λ n h.
    let x = node_of c.index.result.now in
    let now = map node_of c.kids.nodes.keys in
    let e = same_some x n (slice_get now c.args.at) (c.kids.invariant.keeps.keeps c.args.at x (got_form c.args.nodes.now.keys c.args.at c.index.result.now c.index.ensures)) h in
    subst (λ y. IsTurnOf (closure_of (cores_in c.args.query.now)) y c.turn-turn.result.turn c.turn-turn.result.formula.0) e c.turn-turn.ensures.turn

pub kids-preserved : goal.kids-preserved
kids-preserved c =
    let old = map node_of c.args.nodes.now.keys in
    let now = map node_of c.kids.nodes.keys in
    let new = map node_of c.kid_place.new.nodes.keys in
    row_more (sizes c.args.space.now) (cores_in c.args.query.now) c.args.budget old now new c.args.at c.kids.which (c.kids.which + 1) c.in-Some.place c.kids.places.items c.push.new.self.items (omega arith) c.in_ok-push-in-Some.ensures.ok c.kids.invariant
    (subst (IsKidPlace (sizes c.args.space.now) (cores_in c.args.query.now) c.args.budget now new c.args.at c.kids.which) c.in-Some.is c.in_ok-place.ensures)

pub returns : goal.returns
returns c =
    let t = c.kids-test.false in
    let k = c.kid_count-which-end.ensures.count ∙ c.turn-turn.ensures.count (full_of (sizes c.args.space.now)) in
    row_all (sizes c.args.space.now) (cores_in c.args.query.now) c.args.budget (map node_of c.args.nodes.now.keys) (map node_of c.kids.nodes.keys) c.args.at c.kids.which c.kids.places.items (node_of c.index.result.now) c.kids.invariant
    (got_form c.args.nodes.now.keys c.args.at c.index.result.now c.index.ensures) (omega (arith, t, k))
