use Rattle.std.proofs.Common.{◌≡◌, ◌+◌, ◌≤◌, drop}
use Rattle.std.specs.List.{count_by}
use Rattle.model_text.specs.Statements.{all_statements}
use Rattle.model_text.specs.Limits.{is_link}
use Rattle.model_text.proofs.limits.link_count.Given as goal

abbrev pub invariant-loop-statement : goal.invariant-loop-statement
invariant-loop-statement l =
    record {
      links : l.count + count_by is_link (all_statements (drop l.statement-index l.statements)) ≡ count_by is_link (all_statements l.statements);
      count : l.count ≤ l.statement-index;
    }
