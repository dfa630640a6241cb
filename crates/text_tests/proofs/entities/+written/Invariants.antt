use Rattle.std.proofs.Common.{length}
use Rattle.text_tests.proofs.entities.+written.Given as goal

abbrev pub decreases-written : goal.decreases-written
decreases-written l = length l.text.now
