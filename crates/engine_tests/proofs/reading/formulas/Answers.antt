use Rattle.std.proofs.Common.{sym, subst}
use Rattle.std.specs.Prelude.{All}
use Rattle.std.proofs.lemmas.List.Elements.{All-push}
use Rattle.temporal_logic.specs.declared.formula.Formula.{Formula}
use Rattle.temporal_logic.specs.Fits.{Fits}
use Rattle.temporal_logic.specs.Trees.{tree_of}
use Rattle.goal_model.specs.Models.{GoalForm, goal_of}
use Rattle.goal_model.specs.ModelViews.{model_of}
use Rattle.goal_model.proofs.Tables.{all_at}
use Rattle.engine_tests.proofs.reading.formulas.Goals as goal

pub goals-preserved : goal.goals-preserved
goals-preserved c =
    let rs = (model_of c.args.model.now).ranges in
    let P = λ (g : GoalForm). Fits rs g.formula in
    let all = subst (All P) (sym c.goals-goals.ensures) c.args.model.now.well_formed.parts.goals in
    let fits = all_at P goal_of c.goals-goals.result.now c.goals.goal-index c.goal-item.result c.goals-test.true c.goal-item.is all in
    rw c.in_ok-push.ensures.items (All-push (λ (f : Formula). Fits rs (tree_of f)) c.goals.list.items _ c.goals.invariant (subst (Fits rs) (sym c.in_ok-clone.ensures.same) fits))
