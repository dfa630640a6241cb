use Rattle.std.proofs.Common.{◌≡◌, ◌++◌, map, drop}
use Rattle.std.specs.List.{flat_map}
use Rattle.state_space.specs.Spaces.{sizes}
use Rattle.tableau_rules.specs.CertView.{cert_node_of, cert_of}
use Rattle.elimination_cert.specs.CertTexts.{node_text, indented_cert}
use Rattle.elimination_cert.proofs.text.put_cert.Given as goal

abbrev pub invariant-nodes : goal.invariant-nodes
invariant-nodes l = l.out.items ++ flat_map (λ n. l.indent ++ node_text (sizes l.space) n) (map cert_node_of (drop l.entry-index l.cert.nodes.items)) ≡ l.fn.out.items ++ indented_cert l.indent (sizes l.space) (cert_of l.cert)
