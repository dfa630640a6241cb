use Rattle.state_space.proofs.BitSets.{meet_has}
use Rattle.state_space.proofs.values.Values.meet.Goals as goal

pub returns-clause-members : goal.returns-clause-members
returns-clause-members c = meet_has c.args.self.0 c.args.other.0
