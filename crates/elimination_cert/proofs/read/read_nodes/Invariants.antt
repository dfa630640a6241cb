use Rattle.std.proofs.Common.{◌≡◌, ◌++◌, ◌-◌, ◌≤◌, length, map, take}
use Rattle.std.specs.List.{All, flat_map}
use Rattle.state_space.specs.Spaces.{sizes}
use Rattle.tableau_rules.specs.CertView.{cert_node_of}
use Rattle.elimination_cert.specs.CertTexts.{first_line, node_text, FitsSizes}
use Rattle.elimination_cert.proofs.read.read_nodes.Given as goal

abbrev pub invariant-lines : goal.invariant-lines
invariant-lines l = record {
  inside : l.at ≤ length l.bytes;
  text : take l.at l.bytes ≡ first_line l.count ++ flat_map (node_text (sizes l.space)) (map cert_node_of l.nodes.items);
  fits : All (FitsSizes (sizes l.space)) (map cert_node_of l.nodes.items);
  few : length l.nodes.items ≤ l.count;
}

abbrev pub decreases-lines : goal.decreases-lines
decreases-lines l = length l.bytes - l.at
