-- Quantifiers: what stands behind one is given for either kind.
use Rattle.std.proofs.Common.{Err}
use Rattle.goal_model.specs.declared.refusal.Stop.{Stop}
use Rattle.goal_model.specs.declared.refusal.Stop.TheVariants.{Fault, Memory}
use Rattle.goal_model.specs.Refusals.{Resolved, Gives}

-- what stops is seen the same by every view
pub stopped_as : {A B C : Type 0} (view : A → C) (other : B → C) (stop : Stop) (whole : Resolved C) → Gives view (Err stop) whole → Gives other (Err stop) whole
stopped_as view other (Fault f) whole given = given
stopped_as view other Memory whole given = tt
