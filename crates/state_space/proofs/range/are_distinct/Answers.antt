use Rattle.std.proofs.Common.{arith, rules}
use Rattle.state_space.proofs.NameLists.{distinct_more, distinct_all}
use Rattle.state_space.proofs.range.are_distinct.Goals as goal

pub names-preserved : goal.names-preserved
names-preserved c = distinct_more c.args.names.now c.names.index c.index-names-index.result (omega arith) c.index-names-index.is c.names.invariant (search rules)

pub returns : goal.returns
returns c = record { distinct = (λ t. distinct_all c.args.names.now c.names.index (omega arith) c.names.invariant, λ h. search rules) }
