use Rattle.state_space.specs.Spaces.{sizes}
use Rattle.elimination_cert.proofs.ReadSteps.{no_node_found}
use Rattle.elimination_cert.proofs.read.next_node.Goals as goal

pub returns-in-None-2 : goal.returns-in-None-2
returns-in-None-2 c = no_node_found (sizes c.args.space.now) c.args.bytes.now c.in-Some.len c.in_ok-entry.field-0 c.in-Some.ensures.line.2 c.in-None-2.is c.in_ok-entry.ensures
