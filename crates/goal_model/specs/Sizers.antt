-- What is known of sizes before items are looked at.
use Rattle.std.specs.Prelude.{map}
use Rattle.state_space.specs.Spaces.{sizes}
use Rattle.goal_model.specs.declared.contents.Contents.{Contents}
use Rattle.goal_model.specs.declared.item_size.Sizer.{Sizer}
use Rattle.goal_model.specs.Models.{contents_of}
use Rattle.goal_model.specs.Sizes.{Measures}
use Rattle.goal_model.specs.PartWeights.{AreWeights}

-- the parts are weighed, and the domain properties measured
pub record IsReady (contents : Contents) (sizer : Sizer) : Type 0 where
  pub weights : AreWeights (sizes contents.space) (contents_of contents) sizer.weights
  pub domains : Measures (sizes contents.space) (map (λ p. p.formula) (contents_of contents).domains) sizer.domains
