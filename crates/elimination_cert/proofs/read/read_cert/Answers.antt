use Rattle.std.proofs.Common.{arith}
use Rattle.state_space.specs.Spaces.{sizes}
use Rattle.elimination_cert.proofs.Faults.{refused_no_line, refused_first, refused_many}
use Rattle.elimination_cert.proofs.read.read_cert.Goals as goal

pub returns-in-None-clause-err : goal.returns-in-None-clause-err
returns-in-None-clause-err c = refused_no_line (sizes c.args.space.now) c.args.bytes.now c.in-None.ensures.none

pub returns-in-None-2-clause-err : goal.returns-in-None-2-clause-err
returns-in-None-2-clause-err c = refused_first (sizes c.args.space.now) c.args.bytes.now c.in-Some.len c.in-Some.ensures.line.2 (rw c.in-None-2.is at c.in_ok-count.ensures)

pub returns-then-count-gt200000-clause-err : goal.returns-then-count-gt200000-clause-err
returns-then-count-gt200000-clause-err c =
    refused_many (sizes c.args.space.now) c.args.bytes.now c.in-Some.len c.in-Some-2.count (rw c.in-Some-2.is at c.in_ok-count.ensures) c.if-count-gt200000.true (omega arith)
