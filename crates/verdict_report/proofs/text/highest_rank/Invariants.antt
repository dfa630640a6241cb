use Rattle.std.proofs.Common.{◌≡◌, max, map, drop}
use Rattle.tableau_rules.specs.CertView.{cert_node_of, cert_of}
use Rattle.verdict_report.specs.ReportTexts.{highest_rank}
use Rattle.verdict_report.proofs.text.highest_rank.Given as goal

abbrev pub invariant-nodes : goal.invariant-nodes
invariant-nodes l = max l.highest (highest_rank (map cert_node_of (drop l.node-index l.cert.nodes.items))) ≡ highest_rank (cert_of l.cert)
