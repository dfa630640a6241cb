use Rattle.std.proofs.Common.{take}
use Rattle.std.specs.List.{AllZip}
use Rattle.tableau_rules.specs.Answers.{IsValidAnswer}
use Rattle.tableau_rules.specs.QueryView.{cores_in}
use Rattle.goal_model.specs.Models.{sizes_of}
use Rattle.goal_model.specs.ModelViews.{model_of}
use Rattle.kaos_program.proofs.check.answers.Given as goal

abbrev pub invariant-queries : goal.invariant-queries
invariant-queries g l = AllZip (λ q a. IsValidAnswer (sizes_of (model_of l.model)) (cores_in q) l.budget a) (take l.query-index l.queries) l.answers.items
