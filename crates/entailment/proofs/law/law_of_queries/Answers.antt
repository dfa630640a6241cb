use Rattle.entailment.proofs.Queries.{query_law}
use Rattle.entailment.proofs.law.law_of_queries.Goals as goal

pub returns : goal.returns
returns c = record { meets = query_law }
