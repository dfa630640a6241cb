use Rattle.std.proofs.Common.{◌≡◌, ◌++◌, drop}
use Rattle.std.specs.List.{flat_map}
use Rattle.model_text.specs.Statements.{statement_of}
use Rattle.model_text.specs.Layout.{written_statement}
use Rattle.model_text.proofs.writer.put_statements.Given as goal

abbrev pub invariant-statements : goal.invariant-statements
invariant-statements l = l.out.items ++ flat_map (λ s. written_statement (statement_of s.kind)) (drop l.statement-index l.written) ≡ l.fn.out.items ++ flat_map (λ s. written_statement (statement_of s.kind)) l.written
