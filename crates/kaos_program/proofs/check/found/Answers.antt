use Rattle.std.proofs.Common.{List, subst}
use Rattle.std.specs.Prelude.{IfOk}
use Rattle.std.specs.List.{AllZip}
use Rattle.std.proofs.lemmas.Result.{IfOk-weaker}
use Rattle.tableau_rules.specs.declared.query.Query.{Query}
use Rattle.tableau_rules.specs.Answers.{IsValidAnswer}
use Rattle.tableau_rules.specs.QueryView.{cores_in}
use Rattle.goal_model.specs.Models.{sizes_of}
use Rattle.goal_model.specs.ModelViews.{model_of}
use Rattle.kaos_program.specs.Asking.{demands_in}
use Rattle.kaos_program.proofs.AskedDemands.{answers_of}
use Rattle.kaos_program.proofs.check.found.Goals as goal

pub returns : goal.returns
returns g c =
    let m = model_of c.args.model.now in
    let qs = c.in_ok-queries.queries.items in
    let valid = subst (λ (xs : List Query). IfOk c.answers.result (λ v. AllZip (λ q a. IsValidAnswer (sizes_of m) (cores_in q) c.args.budget a) xs v.items)) c.deref.ensures.value c.answers.ensures.valid in
    record { found = IfOk-weaker c.answers.result _ _ (λ v. answers_of m c.args.budget (demands_in c.args.asked.now) qs v.items c.in_ok-queries.ensures.cores) valid }
