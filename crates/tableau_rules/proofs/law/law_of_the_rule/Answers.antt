use Rattle.tableau_rules.proofs.NodeRules.{rule_law}
use Rattle.tableau_rules.proofs.law.law_of_the_rule.Goals as goal

pub returns : goal.returns
returns c = record { meeting = rule_law }
