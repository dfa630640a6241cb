-- What the formulas of a model's parts weigh.
use Rattle.std.specs.Prelude.{◌≡◌, ℕ, Bool, true, false, List, map, slice_index_or}
use Rattle.goal_model.specs.declared.list_size.Weight.{Weight}
use Rattle.goal_model.specs.declared.part_weight.PartWeights.{PartWeights}
use Rattle.goal_model.specs.declared.item.Part.{Part}
use Rattle.goal_model.specs.declared.item.Part.TheVariants.{Goal, Obstacle, Requirement, Boundary}
use Rattle.goal_model.specs.Models.{ModelForm}
use Rattle.goal_model.specs.Items.{requirement_formula, boundary_of}
use Rattle.goal_model.specs.Sizes.{both_weights, both_of}

abbrev pub weights_in : List Weight → List (ℕ × ℕ)
weights_in ws = map both_of ws

-- what is not there is too heavy for a list
abbrev pub too_heavy : ℕ × ℕ
too_heavy = (4097, 4097)

-- the weight of a formula, or of its negation
abbrev pub of_sign : Bool → ℕ × ℕ → ℕ
of_sign true w = w.0
of_sign false w = w.1

-- the weights of a part
abbrev pub weights_at : PartWeights → Part → ℕ × ℕ
weights_at w (Goal g) = slice_index_or (weights_in w.goals.items) g too_heavy
weights_at w (Obstacle o) = slice_index_or (weights_in w.obstacles.items) o too_heavy
weights_at w (Requirement r) = slice_index_or (weights_in w.requirements.items) r too_heavy
weights_at w (Boundary l) = slice_index_or (weights_in w.boundaries.items) l too_heavy

-- each part of the model has its weights, at its place
pub record AreWeights (sizes : List ℕ) (m : ModelForm) (weights : PartWeights) : Type 0 where
  pub goals : weights_in weights.goals.items ≡ map (λ g. both_weights sizes g.formula) m.goals
  pub obstacles : weights_in weights.obstacles.items ≡ map (λ o. both_weights sizes o.formula) m.obstacles
  pub requirements : weights_in weights.requirements.items ≡ map (λ r. both_weights sizes (requirement_formula m r)) m.requirements
  pub boundaries : weights_in weights.boundaries.items ≡ map (λ l. both_weights sizes (boundary_of l)) m.links
