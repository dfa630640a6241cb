use Rattle.goal_model.proofs.MeasuredLists.{measured_tested}
use Rattle.goal_model.proofs.list_size.Measured.is_small.Goals as goal

pub returns : goal.returns
returns c sizes list measured = measured_tested sizes list c.args.self.now measured
