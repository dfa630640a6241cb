use Rattle.std.proofs.Common.{length}
use Rattle.temporal_logic.specs.Rows.{from_lists}
use Rattle.temporal_logic.proofs.Agreement.{truth_below}
use Rattle.temporal_logic.proofs.Given.{trace_is_given}
use Rattle.temporal_logic.proofs.law.law_of_traces.Goals as goal

pub returns-clause-given : goal.returns-clause-given
returns-clause-given c = trace_is_given

pub returns-clause-truth : goal.returns-clause-truth
returns-clause-truth c sizes t lists f v i =
    truth_below (length sizes) t (from_lists lists.prefix lists.cycle) lists.same f v i
