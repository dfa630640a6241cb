use Rattle.model_text.specs.Statements.{statement_of}
use Rattle.model_text.proofs.LineLaws.{put_line}
use Rattle.model_text.proofs.writer.put_statement.Goals as goal

pub returns : goal.returns
returns c =
    let line = put_line c.args.out.now.items (statement_of c.args.written.now.kind) c.new-line.result c.statement.new.line c.mark.new.self c.new-line.ensures c.in_ok-statement.ensures c.in_ok-mark.ensures in
    rw (c.in_ok-push.ensures.items, c.in_ok-extend_from_slice.ensures.items, c.bytes.ensures) line
