use Rattle.std.proofs.Common.{◌≡◌, true, false, map, sym, ap, ◌∙◌, subst}
use Rattle.std.specs.Prelude.{All, slice_index_or}
use Rattle.std.proofs.lemmas.List.Elements.{All-map}
use Rattle.std.proofs.lemmas.Result.{IfOk-weaker}
use Rattle.state_space.specs.Spaces.{ranges, sizes}
use Rattle.state_space.specs.Ranges.{size_of}
use Rattle.temporal_logic.specs.Fits.{Fits}
use Rattle.temporal_logic.specs.Trees.{tree_of}
use Rattle.bound_unfolding.specs.CoreTree.{core_tree}
use Rattle.bound_unfolding.specs.CoreForm.{CoreForm}
use Rattle.bound_unfolding.specs.CoreLists.{cores_of}
use Rattle.bound_unfolding.specs.CoreTexts.{CoreFits}
use Rattle.bound_unfolding.specs.CoreView.{core_tree_of}
use Rattle.goal_model.specs.Models.{sizes_of}
use Rattle.goal_model.specs.ModelViews.{model_of}
use Rattle.goal_model.specs.Items.{no_goal}
use Rattle.state_space.proofs.SpaceFacts.{sizes_of_ranges}
use Rattle.obstacle_regression.specs.Candidates.{FoundForm, is_small, with_candidate}
use Rattle.obstacle_regression.specs.Regressions.{rules_among, total_nodes, domain_cores}
use Rattle.obstacle_regression.proofs.Keeping.{candidates_small}
use Rattle.obstacle_regression.specs.Views.{rule_of, search_of}
use Rattle.obstacle_regression.proofs.Goals.{goal_is, goal_fits}
use Rattle.obstacle_regression.proofs.Halves.{all_mapped}
use Rattle.obstacle_regression.proofs.GoalObstacles.{candidates_fit}
use Rattle.obstacle_regression.proofs.Whole.{first_large, first_taken, regression_same}
use Rattle.obstacle_regression.proofs.regression.regress_through.Goals as goal

pub extents_of-requires : goal.extents_of-requires
extents_of-requires c =
    let m = model_of c.args.model.now in
    record { fits = goal_fits m c.goals.result.now c.goals.ensures c.args.goal c.index-goals-goal.result c.requires.goal c.args.model.now.well_formed.parts (ranges c.space-space.result.now) c.space-space.ensures.ranges }

pub core_of-requires-clause-fits : goal.core_of-requires-clause-fits
core_of-requires-clause-fits c =
    let m = model_of c.args.model.now in
    goal_fits m c.goals.result.now c.goals.ensures c.args.goal c.index-goals-goal.result c.requires.goal c.args.model.now.well_formed.parts (ranges c.space-space.result.now) c.space-space.ensures.ranges

pub returns-then-not-is_small-clause-list : goal.returns-then-not-is_small-clause-list
returns-then-not-is_small-clause-list c =
    let m = model_of c.args.model.now in
    let s = sizes c.space-space.result.now in
    let g = tree_of (slice_index_or c.goals.result.now c.args.goal c.index-goals-goal.result).formula in
    let rules = map tree_of c.args.rules.now in
    let beside = map tree_of c.args.beside.now in
    let same : s ≡ sizes_of m = sizes_of_ranges c.space-space.result.now ∙ ap (map size_of) c.space-space.ensures.ranges in
    let large = sym (c.is_small.ensures.small (core_tree s false g) c.extents_of.ensures.negative) ∙ c.if-not-is_small.true in
    ap (λ items. let found : FoundForm = record { list = map core_tree_of items; more = true } in found) c.new.ensures.items
    ∙ first_large s rules beside g c.args.depth c.nodes_of-nodes.result c.nodes_of-nodes.ensures large
    ∙ regression_same rules beside c.args.depth s (sizes_of m) same g (slice_index_or m.goals c.args.goal no_goal).formula (goal_is m c.goals.result.now c.goals.ensures c.args.goal c.index-goals-goal.result c.requires.goal)

pub returns-clause-list : goal.returns-clause-list
returns-clause-list c =
    let m = model_of c.args.model.now in
    let s = sizes c.space-space.result.now in
    let g = tree_of (slice_index_or c.goals.result.now c.args.goal c.index-goals-goal.result).formula in
    let rules = map tree_of c.args.rules.now in
    let beside = map tree_of c.args.beside.now in
    let same : s ≡ sizes_of m = sizes_of_ranges c.space-space.result.now ∙ ap (map size_of) c.space-space.ensures.ranges in
    let small = sym (c.is_small.ensures.small (core_tree s false g) c.extents_of.ensures.negative) ∙ c.if-not-is_small.false in
    let found =
    first_taken s rules beside g c.args.depth c.nodes_of-nodes.result c.nodes_of-nodes.ensures small (map rule_of c.deref.result.now) (ap (map rule_of) c.deref.ensures.value ∙ c.in_ok-rules.ensures)
    (core_tree_of c.in_ok-core_of.field-0) c.in_ok-core_of.ensures.tree c.take.new.self.beside (c.in_ok-take.ensures.beside ∙ c.new-search.ensures.beside)
    (search_of c.new-search.result) (search_of c.take.new.self) (search_of c.offer_levels.new.self) c.new-search.ensures.none
    (c.in_ok-take.ensures.taken ∙ ap (λ n. with_candidate n (search_of c.new-search.result) (core_tree_of c.in_ok-core_of.field-0)) (sym c.in_ok-take.ensures.beside)) c.in_ok-offer_levels.ensures
    ∙ regression_same rules beside c.args.depth s (sizes_of m) same g (slice_index_or m.goals c.args.goal no_goal).formula (goal_is m c.goals.result.now c.goals.ensures c.args.goal c.index-goals-goal.result c.requires.goal) in
    IfOk-weaker c.finish.result _ _ (λ r is. is ∙ found) c.finish.ensures

pub returns-clause-fits : goal.returns-clause-fits
returns-clause-fits c =
    let m = model_of c.args.model.now in
    let rules = map tree_of c.args.rules.now in
    let beside = map tree_of c.args.beside.now in
    let fit = candidates_fit m c.args.model.now.well_formed.parts c.args.goal c.args.depth c.requires.goal rules beside (All-map (Fits m.ranges) tree_of c.args.rules.now c.requires.rules) in
    IfOk-weaker c.finish.result _ _ (λ r is. all_mapped (CoreFits m.ranges) core_tree_of r.list.items (subst (λ (f : FoundForm). All (CoreFits m.ranges) f.list) (sym is) fit)) (returns-clause-list c)

pub returns-clause-small : goal.returns-clause-small
returns-clause-small c =
    let m = model_of c.args.model.now in
    let rules = map tree_of c.args.rules.now in
    let beside = map tree_of c.args.beside.now in
    let P = λ (k : CoreForm). is_small (total_nodes (cores_of (sizes_of m) beside)) k ≡ true in
    let small = candidates_small (domain_cores (sizes_of m) (rules_among rules) beside) (core_tree (sizes_of m) false (slice_index_or m.goals c.args.goal no_goal).formula) c.args.depth in
    IfOk-weaker c.finish.result _ _ (λ r is. all_mapped P core_tree_of r.list.items (subst (λ (f : FoundForm). All P f.list) (sym is) small)) (returns-clause-list c)
