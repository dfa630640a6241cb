use Rattle.std.proofs.Common.{ℕ, List, map, take}
use Rattle.std.specs.Prelude.{All}
use Rattle.goal_model.specs.Models.{PropertyForm, ModelForm}
use Rattle.goal_model.specs.Items.{list_of}
use Rattle.goal_model.specs.KnownParts.{PartIsOf}
use Rattle.goal_model.specs.Sizes.{IsBounded}
use Rattle.goal_model.specs.PartWeights.{AreWeights}
use Rattle.goal_model.proofs.part_weight.PartWeights.total.Given as goal

abbrev pub invariant-parts : goal.invariant-parts
invariant-parts l = (sizes : List ℕ) (m : ModelForm) → AreWeights sizes m l.self → All (λ p. PartIsOf m p.0) l.parts → IsBounded sizes (map (λ (p : PropertyForm). p.formula) m.domains) l.domains → IsBounded sizes (list_of m (take l.part-index l.parts)) l.total
