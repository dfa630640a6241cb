use Rattle.std.proofs.Common.{◌≡◌, ◌<◌, length, get_or}
use Rattle.state_space.specs.Spaces.{ranges}
use Rattle.temporal_logic.specs.Fits.{Fits}
use Rattle.goal_model.specs.Models.{ObstacleForm, obstacle_of}
use Rattle.goal_model.proofs.Tables.{all_at}
use Rattle.goal_model.proofs.part_weight.obstacle_weights.Goals as goal

pub weigh-requires : goal.weigh-requires
weigh-requires c =
    let all = c.args.contents.now.obstacles.items in
    let inside : c.obstacles.obstacle-index < length all = rw c.deref-obstacle-items.ensures.value at c.obstacles-test.true in
    let item : c.obstacle-item.result ≡ get_or all c.obstacles.obstacle-index c.obstacle-item.result = rw c.deref-obstacle-items.ensures.value at c.obstacle-item.is in
    all_at (λ (p : ObstacleForm). Fits (ranges c.args.contents.now.space) p.formula) obstacle_of all c.obstacles.obstacle-index c.obstacle-item.result inside item c.requires.obstacles
