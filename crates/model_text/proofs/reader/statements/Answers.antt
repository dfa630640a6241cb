use Rattle.std.proofs.Common.{◌<◌, ◌-◌, ◌++◌, ◌∷◌, [], List, length, refl, ap, ◌∙◌, arith}
use Rattle.std.proofs.lemmas.Result.{err_from_is_err_and}
use Rattle.std.proofs.lemmas.List.{length-map}
use Rattle.std.proofs.lemmas.Bool.Decides.{nat_tests}
use Rattle.model_text.specs.Reading.{left}
use Rattle.model_text.specs.Statements.{StatementForm, statements_of, all_statements}
use Rattle.model_text.specs.StatementReading.{ended_statement_at, statements_at}
use Rattle.model_text.proofs.FormulaTokens.{read_as_ok}
use Rattle.model_text.proofs.Turns.{fails_so, read_as_fails, statements_more, statements_done}
use Rattle.model_text.proofs.reader.statements.Goals as goal

pub returns-in_err-ended_statement-clause-exact : goal.returns-in_err-ended_statement-clause-exact
returns-in_err-ended_statement-clause-exact c =
    let p = err_from_is_err_and c.from_residual-in_err-ended_statement.result c.from_residual-in_err-ended_statement.ensures.1 in
    let s = c.turns.invariant.fuel in
    let front = all_statements c.turns.statements.items in
    let some : 0 < length (left c.turns.cursor) = rw length-map (grind (arith, nat_tests, c.is_empty.ensures, c.turns-test.true)) in
    let more = s.2 ∙ statements_more s.0 front _ some s.1 in
    rw (p.1, p.2) (fails_so (λ (u : Unit {0}). front) statements_of c.in_err-ended_statement.field-0.0 _ _ _ c.in_err-ended_statement.ensures.exact (λ e. more ∙ rw (read_as_fails (λ (x : StatementForm). front ++ x ∷ []) (ended_statement_at (left c.turns.cursor)) _ e) refl))

pub turns-preserved : goal.turns-preserved
turns-preserved c =
    let s = c.turns.invariant.fuel in
    let front = all_statements c.turns.statements.items in
    let some : 0 < length (left c.turns.cursor) = rw length-map (grind (arith, nat_tests, c.is_empty.ensures, c.turns-test.true)) in
    let more = s.2 ∙ statements_more s.0 front _ some s.1 in
    let x = read_as_ok (λ (y : StatementForm). front ++ y ∷ []) (ended_statement_at (left c.turns.cursor)) _ _ c.in_ok-ended_statement.ensures.exact in
    record {
      fuel = (s.0 - 1, omega (arith, c.in_ok-ended_statement.ensures.shorter, s.1), more ∙ rw x.1 (ap (λ (l : List StatementForm). statements_at (s.0 - 1) l (left c.ended_statement.new.cursor)) x.2));
      count = omega (arith, c.in_ok-ended_statement.ensures.shorter, c.in_ok-ended_statement.ensures.count, c.turns.invariant.count);
    }

pub returns-clause-exact : goal.returns-clause-exact
returns-clause-exact c =
    let s = c.turns.invariant.fuel in
    s.2 ∙ statements_done s.0 (all_statements c.turns.statements.items) _ (rw length-map (grind (arith, nat_tests, c.is_empty.ensures, c.turns-test.false)))
