use Rattle.std.proofs.Common.{◌≡◌, [], ◌∷◌, map, ap, subst, refl, ◌∙◌, arith}
use Rattle.std.proofs.lemmas.List.{nil_from_length, map-append}
use Rattle.state_space.specs.Spaces.{sizes}
use Rattle.tableau_rules.specs.NodeView.{node_of}
use Rattle.tableau_rules.specs.QueryView.{cores_in}
use Rattle.tableau_rules.proofs.Sizes.{map_length}
use Rattle.tableau_graph.specs.Places.{IsRow}
use Rattle.tableau_graph.specs.Joined.{places_of, rows_in}
use Rattle.tableau_graph.proofs.Wholes.{first_over, first_rows, more_rows, whole}
use Rattle.tableau_graph.proofs.exploration.explore.Goals as goal

pub returns-then-is_none : goal.returns-then-is_none
returns-then-is_none c =
    let none : map node_of c.new-nodes.result.keys ≡ [] = ap (map node_of) (nil_from_length c.new-nodes.result.keys c.new-nodes.ensures.len) in (
      refl,
      first_over (sizes c.args.space.now) (cores_in c.args.query.now) c.args.budget (map node_of c.new-nodes.result.keys) (map node_of c.place.new.nodes.keys) (node_of c.in_ok-kid.kid) c.in_ok-place.field-0 none c.in_ok-kid.ensures.root
          c.if-is_none.ensures c.in_ok-place.ensures,
    )

pub rows-init : goal.rows-init
rows-init c =
    let none : map node_of c.new-nodes.result.keys ≡ [] = ap (map node_of) (nil_from_length c.new-nodes.result.keys c.new-nodes.ensures.len) in
    first_rows (sizes c.args.space.now) (cores_in c.args.query.now) c.args.budget (map node_of c.new-nodes.result.keys) (map node_of c.place.new.nodes.keys) (node_of c.in_ok-kid.kid) c.in_ok-place.field-0 (rows_in c.new-rows.result.items) none
    c.in_ok-kid.ensures.root (ap rows_in c.new-rows.ensures.items) c.if-is_none.ensures c.in_ok-place.ensures

pub rows-preserved : goal.rows-preserved
rows-preserved c =
    let now = map node_of c.rows.nodes.keys in
    let new = map node_of c.row.new.nodes.keys in
    let rows = rows_in c.rows.rows.items in
    let at = c.len-in-rows-2.result in
    let a = map_length places_of c.rows.rows.items in
    let b = map_length node_of c.rows.nodes.keys in
    let t = c.rows-test.true in
    let l = c.len.ensures in
    let m = c.len-in-rows.ensures.len in
    let n = c.len-in-rows-2.ensures in
    let o = c.rows.rows.ok.0 in
    more_rows (sizes c.args.space.now) (cores_in c.args.query.now) c.args.budget now new rows (rows_in c.push.new.self.items) at c.in-Some.places.items (omega (arith, n, o, a))
    (ap rows_in c.in_ok-push-in-Some.ensures.items ∙ map-append places_of c.rows.rows.items (c.in-Some.places ∷ [])) (omega (arith, t, l, m, n, b)) c.rows.invariant
    (subst (IsRow (sizes c.args.space.now) (cores_in c.args.query.now) c.args.budget now new at) c.in-Some.is c.in_ok-places.ensures)

pub returns : goal.returns
returns c =
    let a = map_length places_of c.rows.rows.items in
    let b = map_length node_of c.rows.nodes.keys in
    let t = c.rows-test.false in
    let l = c.len.ensures in
    let m = c.len-in-rows.ensures.len in
    let o = c.rows.rows.ok.0 in
    whole (sizes c.args.space.now) (cores_in c.args.query.now) c.args.budget (map node_of c.rows.nodes.keys) (rows_in c.rows.rows.items) _ c.in_ok-nodes.ensures c.rows.invariant (omega (arith, a, b, t, l, m, o))
