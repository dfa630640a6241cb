use Rattle.std.proofs.Common.{◌≡◌, ◌<◌, length, get_or}
use Rattle.state_space.specs.Spaces.{ranges}
use Rattle.temporal_logic.specs.Fits.{Fits}
use Rattle.goal_model.specs.Models.{GoalForm, goal_of}
use Rattle.goal_model.proofs.Tables.{all_at}
use Rattle.goal_model.proofs.part_weight.goal_weights.Goals as goal

pub weigh-requires : goal.weigh-requires
weigh-requires c =
    let all = c.args.contents.now.goals.items in
    let inside : c.goals.goal-index < length all = rw c.deref-goal-items.ensures.value at c.goals-test.true in
    let item : c.goal-item.result ≡ get_or all c.goals.goal-index c.goal-item.result = rw c.deref-goal-items.ensures.value at c.goal-item.is in
    all_at (λ (p : GoalForm). Fits (ranges c.args.contents.now.space) p.formula) goal_of all c.goals.goal-index c.goal-item.result inside item c.requires.goals
