use Rattle.std.proofs.Common.{true, false, ap₂}
use Rattle.state_space.specs.Spaces.{sizes}
use Rattle.temporal_logic.specs.Trees.{tree_of}
use Rattle.goal_model.proofs.WeighedParts.{light_weight}
use Rattle.goal_model.proofs.list_size.weigh.Goals as goal

pub returns-then-nodes-le1000-2 : goal.returns-then-nodes-le1000-2
returns-then-nodes-le1000-2 c =
    let ns = sizes c.args.space.now in
    let f = tree_of c.args.f.now in
    ap₂ (λ p n. (p, n)) (light_weight ns true f _ c.core_sizes-nodes.ensures.positive c.if-nodes-le1000.true) (light_weight ns false f _ c.core_sizes-nodes.ensures.negative c.if-nodes-le1000-2.true)
