use Rattle.std.proofs.Common.{◌≡◌, drop}
use Rattle.std.specs.List.{list_any}
use Rattle.model_text.specs.Statements.{all_statements}
use Rattle.model_text.specs.Limits.{has_formula, has_wide_bound}
use Rattle.model_text.proofs.limits.has_wide_bounds.Given as goal

abbrev pub invariant-loop-statement : goal.invariant-loop-statement
invariant-loop-statement l =
    list_any (has_formula has_wide_bound) (all_statements (drop l.statement-index l.statements)) ≡ list_any (has_formula has_wide_bound) (all_statements l.statements)
