use Rattle.std.proofs.Common.{◌≡◌, map, take}
use Rattle.state_space.specs.Spaces.{sizes}
use Rattle.goal_model.specs.Models.{link_of}
use Rattle.goal_model.specs.Items.{boundary_of}
use Rattle.goal_model.specs.Sizes.{both_weights}
use Rattle.goal_model.specs.PartWeights.{weights_in}
use Rattle.goal_model.proofs.part_weight.boundary_weights.Given as goal

abbrev pub invariant-links : goal.invariant-links
invariant-links l = weights_in l.weights.items ≡ map (λ k. both_weights (sizes l.contents.space) (boundary_of k)) (map link_of (take l.link-index l.contents.links.items))
