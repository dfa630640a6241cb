use Rattle.std.proofs.lemmas.Result.{IfOk-weaker}
use Rattle.tableau_rules.specs.QueryView.{cores_in}
use Rattle.entailment.proofs.Queries.{over_of_list}
use Rattle.entailment.proofs.query.query_of.Goals as goal

pub returns-clause-over : goal.returns-clause-over
returns-clause-over c = IfOk-weaker c.of_formulas.result _ _ (λ q. over_of_list c.args.space.now c.args.list.now (cores_in q) c.requires.fit) c.of_formulas.ensures.cores
