use Rattle.tableau_rules.proofs.Eliminations.{certificate_law}
use Rattle.tableau_rules.proofs.law.law_of_certificates.Goals as goal

pub returns : goal.returns
returns c = record { refuted = certificate_law }
