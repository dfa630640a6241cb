use Rattle.std.proofs.Common.{◌<◌, length, sym, subst}
use Rattle.std.specs.Prelude.{All}
use Rattle.formula_table.specs.Closures.{closure_of}
use Rattle.tableau_rules.specs.QueryView.{cores_in}
use Rattle.tableau_rules.specs.GraphView.{graph_of}
use Rattle.tableau_rules.specs.Links.{carries_at, fulfils_at, IsLinked}
use Rattle.tableau_rules.specs.Walks.{IsClosedWalk}
use Rattle.lasso_builder.specs.declared.walk.ClosedWalk.{ClosedWalk}
use Rattle.lasso_builder.specs.PlaceWalks.{IsClosed, stem_of, loop_of}
use Rattle.lasso_builder.specs.GraphPlaces.{nodes_at}
use Rattle.lasso_builder.proofs.Lowering.{if_ok}
use Rattle.lasso_builder.proofs.GraphSets.{places_survive}
use Rattle.lasso_builder.proofs.Cutting.{closed_walk, inside_graph}
use Rattle.lasso_builder.proofs.builder.walk_in.Goals as goal

pub closed_walk-requires-clause-survives : goal.closed_walk-requires-clause-survives
closed_walk-requires-clause-survives c =
    let cores = cores_in c.args.query.now in
    let graph = graph_of c.args.graph.now in
    let linked = subst (IsLinked cores graph) (sym c.deref.ensures.value) c.in_ok-links.ensures.linked in
    places_survive cores graph c.deref.result.now linked c.args.stays.now c.requires.stays

pub returns-clause-inside : goal.returns-clause-inside
returns-clause-inside c =
    let cores = cores_in c.args.query.now in
    let graph = graph_of c.args.graph.now in
    let links = c.deref.result.now in
    let alive = c.args.stays.now in
    let linked = subst (IsLinked cores graph) (sym c.deref.ensures.value) c.in_ok-links.ensures.linked in
    if_ok (λ (w : ClosedWalk). IsClosed links (carries_at (closure_of cores) graph) (fulfils_at links) (length (closure_of cores)) alive w.places.items w.start)
    (λ w. All (λ p. p < length graph) w.places.items) c.closed_walk.result
    (λ w h. inside_graph cores graph links alive w.places.items linked h.is) c.closed_walk.ensures

pub returns-clause-closed : goal.returns-clause-closed
returns-clause-closed c = λ sizes whole.
    let cores = cores_in c.args.query.now in
    let graph = graph_of c.args.graph.now in
    let links = c.deref.result.now in
    let alive = c.args.stays.now in
    let linked = subst (IsLinked cores graph) (sym c.deref.ensures.value) c.in_ok-links.ensures.linked in
    if_ok (λ (w : ClosedWalk). IsClosed links (carries_at (closure_of cores) graph) (fulfils_at links) (length (closure_of cores)) alive w.places.items w.start)
    (λ w. IsClosedWalk sizes cores (nodes_at graph (stem_of w.places.items w.start)) (nodes_at graph (loop_of w.places.items w.start))) c.closed_walk.result
    (λ w h. closed_walk sizes cores graph links alive w.places.items w.start whole linked h) c.closed_walk.ensures
