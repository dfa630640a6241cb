use Rattle.tableau_rules.proofs.QueryNodes.{reached_of_query}
use Rattle.tableau_rules.proofs.law.law_of_nodes.Goals as goal

pub returns : goal.returns
returns c = record { of_query = reached_of_query }
