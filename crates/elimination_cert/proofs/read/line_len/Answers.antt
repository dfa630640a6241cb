use Rattle.std.proofs.Common.{sym}
use Rattle.elimination_cert.proofs.ReadSteps.{line_found, no_line_found}
use Rattle.elimination_cert.proofs.read.line_len.Goals as goal

pub returns-in-Some-clause-line : goal.returns-in-Some-clause-line
returns-in-Some-clause-line c = line_found c.args.bytes.now c.in-Some.end (sym c.in-Some.ensures)

pub returns-in-None-clause-none : goal.returns-in-None-clause-none
returns-in-None-clause-none c = no_line_found c.args.bytes.now (sym c.in-None.ensures)
