use Rattle.std.proofs.Common.{◌<◌, length, sym, subst, rules}
use Rattle.std.specs.Prelude.{All}
use Rattle.temporal_logic.specs.Fits.{Fits}
use Rattle.goal_model.specs.declared.contents.Goal.{Goal}
use Rattle.goal_model.specs.Models.{GoalForm, goal_of}
use Rattle.goal_model.specs.ModelViews.{model_of}
use Rattle.goal_model.proofs.Tables.{all_at}
use Rattle.engine_tests.proofs.reading.goal.Goals as goal

pub returns : goal.returns
returns g c =
    let P = λ (x : GoalForm). Fits (model_of c.args.model.now).ranges x.formula in
    let all = subst (All P) (sym c.goals-goals.ensures) c.args.model.now.well_formed.parts.goals in
    let inside : c.args.place < length c.goals-goals.result.now = search rules in
    record { fits = subst (λ (x : Goal). P (goal_of x)) c.index-goals-place.is (all_at P goal_of c.goals-goals.result.now c.args.place c.index-goals-place.result inside c.index-goals-place.is all) }
