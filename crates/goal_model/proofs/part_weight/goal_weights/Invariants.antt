use Rattle.std.proofs.Common.{◌≡◌, map, take}
use Rattle.state_space.specs.Spaces.{sizes}
use Rattle.goal_model.specs.Models.{goal_of}
use Rattle.goal_model.specs.Sizes.{both_weights}
use Rattle.goal_model.specs.PartWeights.{weights_in}
use Rattle.goal_model.proofs.part_weight.goal_weights.Given as goal

abbrev pub invariant-goals : goal.invariant-goals
invariant-goals l = weights_in l.weights.items ≡ map (λ g. both_weights (sizes l.contents.space) g.formula) (map goal_of (take l.goal-index l.contents.goals.items))
