use Rattle.std.proofs.Common.{◌≡◌, map, take}
use Rattle.state_space.specs.Spaces.{sizes}
use Rattle.goal_model.specs.Models.{contents_of, requirement_of}
use Rattle.goal_model.specs.Items.{requirement_formula}
use Rattle.goal_model.specs.Sizes.{both_weights}
use Rattle.goal_model.specs.PartWeights.{weights_in}
use Rattle.goal_model.proofs.part_weight.requirement_weights.Given as goal

abbrev pub invariant-requirements : goal.invariant-requirements
invariant-requirements l = weights_in l.weights.items ≡ map (λ r. both_weights (sizes l.contents.space) (requirement_formula (contents_of l.contents) r)) (map requirement_of (take l.requirement-index l.contents.requirements.items))
