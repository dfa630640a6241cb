use Rattle.std.proofs.Common.{sym, subst}
use Rattle.std.specs.Prelude.{All}
use Rattle.temporal_logic.specs.declared.formula.Formula.{Formula}
use Rattle.temporal_logic.specs.Fits.{Fits}
use Rattle.temporal_logic.specs.Trees.{tree_of}
use Rattle.goal_model.specs.ModelViews.{model_of}
use Rattle.obstacle_regression.proofs.Halves.{all_mapped}
use Rattle.obstacle_regression.proofs.GoalObstacles.{rules_all, domains_all}
use Rattle.obstacle_regression.proofs.regression.regress.Goals as goal

pub regress_through-requires-clause-rules : goal.regress_through-requires-clause-rules
regress_through-requires-clause-rules c =
    let m = model_of c.args.model.now in
    let P = Fits m.ranges in
    subst (All (λ (f : Formula). P (tree_of f))) (sym c.deref.ensures.value) (all_mapped P tree_of c.in_ok-rules.rules.items (subst (All P) (sym c.in_ok-rules.ensures) (rules_all P m c.args.model.now.well_formed.parts.domains)))

pub regress_through-requires-clause-beside : goal.regress_through-requires-clause-beside
regress_through-requires-clause-beside c =
    let m = model_of c.args.model.now in
    let P = Fits m.ranges in
    subst (All (λ (f : Formula). P (tree_of f))) (sym c.deref-2.ensures.value) (all_mapped P tree_of c.in_ok-beside.beside.items (subst (All P) (sym c.in_ok-beside.ensures) (domains_all P m c.args.model.now.well_formed.parts.domains)))
