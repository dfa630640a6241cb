use Rattle.goal_model.proofs.KeptDrafts.{taken_keeps}
use Rattle.goal_model.proofs.resolution.step.Goals as goal

pub returns-in-Ok-clause-draft : goal.returns-in-Ok-clause-draft
returns-in-Ok-clause-draft c = (taken_keeps _ _ _ _ c.requires.draft c.in-Ok.ensures).0

pub returns-in-Ok-clause-few : goal.returns-in-Ok-clause-few
returns-in-Ok-clause-few c = (taken_keeps _ _ _ _ c.requires.draft c.in-Ok.ensures).1
