use Rattle.model_text.specs.Statements.{statements_of}
use Rattle.goal_model.proofs.WithinLimits.{shallow_statements}
use Rattle.engine_tests.proofs.reading.read.Goals as goal

pub resolve-requires-clause-shallow : goal.resolve-requires-clause-shallow
resolve-requires-clause-shallow g c = shallow_statements _ (statements_of c.in_ok-raw.raw) c.in_ok-raw.ensures.found
