use Rattle.std.proofs.Common.{ℕ, List, sym, subst}
use Rattle.std.specs.Prelude.{All}
use Rattle.state_space.specs.Ranges.{RangeForm}
use Rattle.temporal_logic.specs.Fits.{Fits}
use Rattle.temporal_logic.specs.Lassos.{trace_of, IsOfSpace}
use Rattle.temporal_logic.specs.Trees.{tree_of}
use Rattle.goal_model.specs.Models.{GoalForm}
use Rattle.goal_model.specs.ModelViews.{model_of}
use Rattle.kaos_program.proofs.ModelParts.{sizes_same}
use Rattle.kaos_program.proofs.TruthRows.{goal_fits, truths_more}
use Rattle.kaos_program.proofs.truths.truths_on.Goals as goal

pub is_true-requires-clause-of_space : goal.is_true-requires-clause-of_space
is_true-requires-clause-of_space c =
    subst (λ (ns : List ℕ). IsOfSpace ns c.args.lasso.now) (sym (sizes_same c.space-space.result.now (model_of c.args.model.now) c.space-space.ensures.ranges)) c.requires.of_space

pub is_true-requires-clause-fits : goal.is_true-requires-clause-fits
is_true-requires-clause-fits c =
    let all = subst (All (λ (g : GoalForm). Fits (model_of c.args.model.now).ranges g.formula)) (sym c.goals-goals.ensures) c.args.model.now.well_formed.parts.goals in
    subst (λ (rs : List RangeForm). Fits rs (tree_of c.goal-item.result.formula)) (sym c.space-space.ensures.ranges)
    (goal_fits (model_of c.args.model.now).ranges c.goals-goals.result.now c.goals.goal-index c.goal-item.result all c.goals-test.true c.goal-item.is)

pub goals-preserved : goal.goals-preserved
goals-preserved c =
    truths_more (trace_of c.args.lasso.now) c.goals-goals.result.now c.goals.row.items _ c.goals.goal-index c.goal-item.result _ c.goals-test.true c.goal-item.is c.goals.invariant c.in_ok-is_true.ensures.truth c.in_ok-push.ensures.items
