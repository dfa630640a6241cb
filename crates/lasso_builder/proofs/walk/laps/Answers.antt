use Rattle.std.proofs.Common.{◌≡◌, length, ◌∙◌, arith}
use Rattle.formula_table.specs.Closures.{closure_of}
use Rattle.tableau_rules.specs.QueryView.{cores_in}
use Rattle.tableau_rules.specs.GraphView.{graph_of}
use Rattle.tableau_rules.specs.Links.{fulfils_at, carries_at}
use Rattle.lasso_builder.proofs.Legs.{at_last, last_living}
use Rattle.lasso_builder.proofs.Laps.{lapped_more, unbegun_less}
use Rattle.lasso_builder.proofs.walk.laps.Goals as goal

pub laps-smaller : goal.laps-smaller
laps-smaller c =
    let e : c.len-length.result ≡ length c.laps.walk.items = c.len-length.ensures ∙ c.laps.walk.ok.0 in
    let s = c.laps.invariant.is.some in
    let l = (last_living c.args.links.now c.args.alive.now c.laps.walk.items c.index.result.now c.laps.invariant.is (at_last c.laps.walk.items c.index.result.now c.len-length.result e s c.index.ensures)).0 in
    let z = c.laps.invariant.size in
    let f = c.if-begun-last-gt0.false in
    unbegun_less c.laps.begun c.index.result.now c.len-length.result (omega (arith, l, z)) (omega (arith, f)) (omega (arith, e, s))

pub laps-preserved : goal.laps-preserved
laps-preserved c =
    let e : c.len-length.result ≡ length c.laps.walk.items = c.len-length.ensures ∙ c.laps.walk.ok.0 in
    let s = c.laps.invariant.is.some in
    let a = at_last c.laps.walk.items c.index.result.now c.len-length.result e s c.index.ensures in
    rw e (lapped_more c.args.links.now (carries_at (closure_of (cores_in c.args.query.now)) (graph_of c.args.graph.now)) (fulfils_at c.args.links.now) (length (closure_of (cores_in c.args.query.now))) c.args.alive.now
    c.laps.begun c.laps.walk.items c.lap.new.walk.items c.index.result.now c.laps.invariant a (last_living c.args.links.now c.args.alive.now c.laps.walk.items c.index.result.now c.laps.invariant.is a).0 c.in_ok-lap.ensures)
