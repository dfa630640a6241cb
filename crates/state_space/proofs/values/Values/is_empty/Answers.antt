use Rattle.state_space.proofs.BitSets.{none_has}
use Rattle.state_space.proofs.values.Values.is_empty.Goals as goal

pub returns : goal.returns
returns c = none_has c.args.self.0
