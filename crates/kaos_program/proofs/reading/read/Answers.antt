use Rattle.std.proofs.Common.{arith}
use Rattle.std.proofs.lemmas.List.{length-map}
use Rattle.model_text.specs.declared.statement.Statement.{Statement}
use Rattle.model_text.specs.Statements.{statement_of, statements_of}
use Rattle.kaos_program.proofs.Answering.{text_cause, text_line}
use Rattle.goal_model.proofs.WithinLimits.{few_statements, shallow_statements}
use Rattle.kaos_program.proofs.reading.read.Goals as goal

pub resolved-requires-clause-few : goal.resolved-requires-clause-few
resolved-requires-clause-few c =
    let raw = c.in-Ok.raw in
    omega (
      arith,
      few_statements c.args.bytes.now (statements_of raw) c.in-Ok.ensures.found,
      length-map raw.statements.items (λ (s : Statement). statement_of s.kind),
      raw.statements.ok.0,
    )

pub resolved-requires-clause-shallow : goal.resolved-requires-clause-shallow
resolved-requires-clause-shallow c = shallow_statements c.args.bytes.now (statements_of c.in-Ok.raw) c.in-Ok.ensures.found

pub returns-in_ok-text_refusal-in-Err : goal.returns-in_ok-text_refusal-in-Err
returns-in_ok-text_refusal-in-Err c =
    let cause = text_cause c.args.bytes.now c.in-Err.refusal c.in-Err.ensures.refused c.in_ok-text_refusal-in-Err.ensures.cause in
    record { read = text_line c.args.bytes.now c.in-Err.refusal _ c.requires cause c.in_ok-text_refusal-in-Err.ensures.line }
