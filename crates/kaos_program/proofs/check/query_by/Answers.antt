use Rattle.std.proofs.Common.{◌≡◌, subst}
use Rattle.std.specs.Prelude.{IfOk}
use Rattle.tableau_rules.specs.QueryView.{cores_in}
use Rattle.pattern_library.specs.Patterns.{PatternForm}
use Rattle.pattern_library.specs.PatternQueries.{pattern_cores}
use Rattle.kaos_program.proofs.check.query_by.Goals as goal

pub returns-clause-cores : goal.returns-clause-cores
returns-clause-cores c = subst (λ (p : PatternForm). IfOk c.pattern_query.result (λ q. cores_in q.1 ≡ pattern_cores p)) c.in_ok-pattern.ensures.form c.pattern_query.ensures.cores
