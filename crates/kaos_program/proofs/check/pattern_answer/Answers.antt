use Rattle.std.proofs.Common.{ℕ, List, subst}
use Rattle.std.specs.Prelude.{IfOk}
use Rattle.state_space.specs.Spaces.{sizes}
use Rattle.bound_unfolding.specs.CoreForm.{CoreForm}
use Rattle.tableau_rules.specs.Answers.{IsValidAnswer}
use Rattle.pattern_library.specs.Patterns.{pattern_of}
use Rattle.pattern_library.specs.PatternQueries.{pattern_cores}
use Rattle.kaos_program.proofs.check.pattern_answer.Goals as goal

pub returns : goal.returns
returns g c =
    let over_space = subst (λ (cores : List CoreForm). IfOk c.answer.result (IsValidAnswer (sizes c.in_ok-space.space) cores c.args.budget)) c.in_ok-space.ensures.cores c.answer.ensures in
    record { valid = subst (λ (ns : List ℕ). IfOk c.answer.result (IsValidAnswer ns (pattern_cores (pattern_of c.args.kind)) c.args.budget)) c.in_ok-space.ensures.sizes over_space }
