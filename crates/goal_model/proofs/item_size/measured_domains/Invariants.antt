use Rattle.std.proofs.Common.{map, take}
use Rattle.state_space.specs.Spaces.{sizes}
use Rattle.goal_model.specs.Models.{property_of}
use Rattle.goal_model.specs.Sizes.{Measures}
use Rattle.goal_model.proofs.item_size.measured_domains.Given as goal

abbrev pub invariant-domains : goal.invariant-domains
invariant-domains l = Measures (sizes l.contents.space) (map (λ p. p.formula) (map property_of (take l.property-index l.contents.domains.items))) l.measured
