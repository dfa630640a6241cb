use Rattle.state_space.proofs.BitSets.{join_has}
use Rattle.state_space.proofs.values.Values.join.Goals as goal

pub returns-clause-members : goal.returns-clause-members
returns-clause-members c = join_has c.args.self.0 c.args.other.0
