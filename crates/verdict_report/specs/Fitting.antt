-- Which evidence can be written over the variables of a space.
use Rattle.std.specs.Prelude.{◌≡◌, ℕ, ◌<◌, List, length, All}
use Rattle.temporal_logic.specs.Lassos.{IsOfSpace}
use Rattle.tableau_rules.specs.declared.certificate.Cert.{Cert}
use Rattle.tableau_rules.specs.CertView.{cert_of}
use Rattle.pattern_library.specs.Patterns.{pattern_of}
use Rattle.pattern_library.specs.Instances.{placeholder_sizes}
use Rattle.verdict_report.specs.declared.report.Evidence.{Evidence}
use Rattle.verdict_report.specs.declared.report.Evidence.TheVariants.{Nothing, Elimination, ByPattern, Trace, Offending}
use Rattle.agent_capabilities.specs.declared.cover.Cover.{Cover}
use Rattle.agent_capabilities.specs.declared.cover.Cover.TheVariants.{Covered, NotMonitored, NotControlled}

-- what an agent lacks is a variable
abbrev pub CoverFits : ℕ → Cover → Type 0
CoverFits count Covered = Unit {0}
CoverFits count (NotMonitored x) = x.0 < count
CoverFits count (NotControlled x) = x.0 < count

-- each node of a certificate has a set for each variable
abbrev pub CertFits : List ℕ → Cert → Type 0
CertFits sizes cert = All (λ c. length c.node.now ≡ length sizes) (cert_of cert)

-- a certificate is over the variables, or over the placeholders of its pattern; each state of a lasso has an index below its size for each
-- variable, and what an agent lacks is one of them
abbrev pub EvidenceFits : List ℕ → Evidence → Type 0
EvidenceFits sizes Nothing = Unit {0}
EvidenceFits sizes (Elimination cert) = CertFits sizes cert
EvidenceFits sizes (ByPattern kind cert) = CertFits (placeholder_sizes (pattern_of kind)) cert
EvidenceFits sizes (Trace l) = IsOfSpace sizes l
EvidenceFits sizes (Offending cover) = CoverFits (length sizes) cover
