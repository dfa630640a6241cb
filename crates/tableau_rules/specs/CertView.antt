-- Certificates as they are kept, seen as certificates of the tableau.
use Rattle.std.specs.Prelude.{List, map}
use Rattle.tableau_rules.specs.declared.certificate.Reason.{Reason}
use Rattle.tableau_rules.specs.declared.certificate.Reason.TheVariants.{Clash, Dead, Wait}
use Rattle.tableau_rules.specs.declared.certificate.CertNode.{CertNode}
use Rattle.tableau_rules.specs.declared.certificate.Cert.{Cert}
use Rattle.tableau_rules.specs.Certificates.{ReasonForm, clash, dead, wait, CertNodeForm}
use Rattle.tableau_rules.specs.NodeView.{node_of}

-- the reason that one of the code stands for
abbrev pub reason_of : Reason → ReasonForm
reason_of Clash = clash
reason_of Dead = dead
reason_of (Wait e) = wait e

-- the node without where it lies in memory
abbrev pub cert_node_of : CertNode → CertNodeForm
cert_node_of c = record { node = node_of c.node; kids = c.kids.items; rank = c.mark.rank; reason = reason_of c.mark.reason }

-- the nodes of a certificate, in order
abbrev pub cert_of : Cert → List CertNodeForm
cert_of cert = map cert_node_of cert.nodes.items
