use Rattle.std.specs.List.{AllZip}
use Rattle.goal_model.specs.ModelViews.{model_of}
use Rattle.kaos_program.specs.Asking.{IsAsked}
use Rattle.kaos_program.proofs.AskedLinks.{questions_to}
use Rattle.kaos_program.proofs.asking.all_asked.Given as goal

abbrev pub invariant-links : goal.invariant-links
invariant-links l = AllZip (IsAsked (model_of l.model)) (questions_to (model_of l.model) l.link) l.asked.items
