use Rattle.std.proofs.Common.{◌∙◌, sym, subst}
use Rattle.temporal_logic.specs.Rows.{rows, from_lists}
use Rattle.state_space.specs.Spaces.{sizes}
use Rattle.tableau_rules.specs.QueryView.{cores_in}
use Rattle.tableau_rules.specs.GraphView.{graph_of}
use Rattle.tableau_rules.specs.Queries.{MeetsAll}
use Rattle.lasso_builder.proofs.StateRows.{rows_answer}
use Rattle.lasso_builder.proofs.builder.build.Goals as goal

pub lasso_of-requires : goal.lasso_of-requires
lasso_of-requires c = (
  cores_in c.args.query.now,
  rows_answer c.args.space.now (cores_in c.args.query.now) (graph_of c.args.graph.now) c.in_ok-walk.walk.places.items c.deref.result.now c.deref-2.result.now c.in_ok-walk.walk.start c.len-end.result
      c.in_ok-prefix.prefix.items c.in_ok-cycle.cycle.items c.requires.over (c.in_ok-walk.ensures.closed (sizes c.args.space.now) c.requires.whole) (c.len-end.ensures ∙ c.in_ok-walk.walk.places.ok.0)
      c.deref.ensures.value c.deref-2.ensures.value c.in_ok-prefix.ensures c.in_ok-cycle.ensures,
)

pub returns-clause-meets : goal.returns-clause-meets
returns-clause-meets c =
    let cores = cores_in c.args.query.now in
    let answer =
    rows_answer c.args.space.now cores (graph_of c.args.graph.now) c.in_ok-walk.walk.places.items c.deref.result.now c.deref-2.result.now c.in_ok-walk.walk.start c.len-end.result
    c.in_ok-prefix.prefix.items c.in_ok-cycle.cycle.items c.requires.over (c.in_ok-walk.ensures.closed (sizes c.args.space.now) c.requires.whole) (c.len-end.ensures ∙ c.in_ok-walk.walk.places.ok.0)
    c.deref.ensures.value c.deref-2.ensures.value c.in_ok-prefix.ensures c.in_ok-cycle.ensures
    in
    subst (λ p. MeetsAll (from_lists (rows p) (rows c.lasso_of.result.cycle.items)) cores) (sym c.lasso_of.ensures.prefix)
    (subst (λ y. MeetsAll (from_lists (rows c.in_ok-prefix.prefix.items) (rows y)) cores) (sym c.lasso_of.ensures.cycle) answer.meets)
