use Rattle.std.proofs.Common.{◌≡◌, map, take}
use Rattle.state_space.specs.Spaces.{sizes}
use Rattle.goal_model.specs.Models.{obstacle_of}
use Rattle.goal_model.specs.Sizes.{both_weights}
use Rattle.goal_model.specs.PartWeights.{weights_in}
use Rattle.goal_model.proofs.part_weight.obstacle_weights.Given as goal

abbrev pub invariant-obstacles : goal.invariant-obstacles
invariant-obstacles l = weights_in l.weights.items ≡ map (λ o. both_weights (sizes l.contents.space) o.formula) (map obstacle_of (take l.obstacle-index l.contents.obstacles.items))
