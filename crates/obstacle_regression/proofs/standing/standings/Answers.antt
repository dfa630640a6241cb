use Rattle.std.proofs.Common.{ap, ◌∙◌, map}
use Rattle.temporal_logic.specs.Trees.{tree_of}
use Rattle.bound_unfolding.specs.declared.core_form.Core.{Core}
use Rattle.bound_unfolding.specs.CoreLists.{cores_of}
use Rattle.bound_unfolding.specs.CoreView.{core_tree_of}
use Rattle.goal_model.specs.Models.{sizes_of}
use Rattle.goal_model.specs.ModelViews.{model_of}
use Rattle.obstacle_regression.specs.declared.standing.Standing.{Standing}
use Rattle.obstacle_regression.specs.Candidates.{is_small}
use Rattle.obstacle_regression.specs.Regressions.{total_nodes, domain_formulas}
use Rattle.obstacle_regression.specs.Standings.{StandsSo}
use Rattle.obstacle_regression.proofs.Told.{domain_fits, domain_shallow, small_beside, stands_by, standings_more, domain_list_is}
use Rattle.obstacle_regression.proofs.standing.standings.Goals as goal

pub query_of_candidate-requires-clause-fit : goal.query_of_candidate-requires-clause-fit
query_of_candidate-requires-clause-fit g c =
    let m = model_of c.args.model.now in
    let is = c.deref.ensures.value in
    let are = ap (map tree_of) is ∙ domain_list_is m c.in_ok-domain.domain c.in_ok-domain.ensures.demand in
    domain_fits m c.args.model.now.well_formed.parts c.space-space.result.now c.space-space.ensures.ranges c.deref.result.now are
    (rw is c.in_ok-domain.ensures.answerable.fit)

pub query_of_candidate-requires-clause-levels : goal.query_of_candidate-requires-clause-levels
query_of_candidate-requires-clause-levels g c =
    let m = model_of c.args.model.now in
    let is = c.deref.ensures.value in
    let are = ap (map tree_of) is ∙ domain_list_is m c.in_ok-domain.domain c.in_ok-domain.ensures.demand in
    domain_shallow m c.args.model.now.well_formed.parts c.space-space.result.now c.space-space.ensures.ranges c.deref.result.now are
    (rw is c.in_ok-domain.ensures.answerable.small.levels)

pub query_of_candidate-requires-clause-small : goal.query_of_candidate-requires-clause-small
query_of_candidate-requires-clause-small g c =
    let m = model_of c.args.model.now in
    let are = ap (map tree_of) c.deref.ensures.value ∙ domain_list_is m c.in_ok-domain.domain c.in_ok-domain.ensures.demand in
    let total = total_nodes (cores_of (sizes_of m) (domain_formulas m)) in
    small_beside m c.args.model.now.well_formed.parts c.space-space.result.now c.space-space.ensures.ranges c.deref.result.now are (core_tree_of c.candidate-item.result)
    (ap (λ (x : Core). is_small total (core_tree_of x)) c.candidate-item.is ∙ c.requires.small c.candidates.candidate-index c.candidate-item.result c.candidates-test.true)

pub candidates-preserved : goal.candidates-preserved
candidates-preserved g c =
    let m = model_of c.args.model.now in
    let are = ap (map tree_of) c.deref.ensures.value ∙ domain_list_is m c.in_ok-domain.domain c.in_ok-domain.ensures.demand in
    standings_more (λ (x : Core) (s : Standing). StandsSo m c.args.budget (core_tree_of x) s) c.args.candidates.now c.candidates.candidate-index c.candidate-item.result c.candidates.standings.items _ c.standing_of.result
    c.candidates-test.true c.candidate-item.is c.candidates.invariant
    (stands_by m c.args.model.now.well_formed.parts c.space-space.result.now c.space-space.ensures.ranges c.deref.result.now are (core_tree_of c.candidate-item.result) c.args.budget c.in_ok-answer.answer _ c.in_ok-query.ensures.cores c.in_ok-answer.ensures c.standing_of.result c.standing_of.ensures)
    c.in_ok-push.ensures.items
