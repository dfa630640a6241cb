use Rattle.std.proofs.Common.{◌≡◌, ◌++◌, ◌∷◌, [], ◌-◌, length, map, refl, ap, ◌∙◌, arith}
use Rattle.std.specs.Global.{Vec}
use Rattle.std.proofs.lemmas.Result.{err_from_is_err_and}
use Rattle.std.proofs.lemmas.List.{map-append}
use Rattle.model_tokens.specs.declared.token.Sign.TheVariants.{OpenBrace}
use Rattle.model_text.specs.Reading.{behind_mark}
use Rattle.model_text.specs.declared.statement.RawState.{RawState}
use Rattle.model_text.specs.Statements.{settings_of}
use Rattle.model_text.specs.StatementReading.{state_at}
use Rattle.model_text.proofs.Turns.{fails_so, more_more, more_done}
use Rattle.model_text.proofs.trace_reader.states.Goals as goal

pub returns-in_err-next-clause-exact : goal.returns-in_err-next-clause-exact
returns-in_err-next-clause-exact c =
    let p = err_from_is_err_and c.from_residual.result c.from_residual.ensures.1 in
    let s = c.states.invariant.so_far in
    let is = c.states-test.ensures in
    let more = s.2 ∙ more_more OpenBrace state_at s.0 (map settings_of c.states.states.items) _ _ (omega (arith, ap length is)) (ap (behind_mark OpenBrace) is) in
    rw (p.1, p.2) (fails_so settings_of (λ (xs : Vec RawState). map settings_of xs.items) c.in_err-next.field-0.0 _ _ _ c.in_err-next.ensures.exact (λ e. more ∙ rw e refl))

pub states-preserved : goal.states-preserved
states-preserved c =
    let s = c.states.invariant.so_far in
    let is = c.states-test.ensures in
    let more = s.2 ∙ more_more OpenBrace state_at s.0 (map settings_of c.states.states.items) _ _ (omega (arith, ap length is)) (ap (behind_mark OpenBrace) is) in
    let pushed : map settings_of c.push.new.self.items ≡ map settings_of c.states.states.items ++ settings_of c.in_ok-next.next ∷ [] = ap (map settings_of) c.in_ok-push.ensures.items ∙ map-append settings_of c.states.states.items (c.in_ok-next.next ∷ []) in
    record {
      so_far = (s.0 - 1, omega (arith, ap length is, c.in_ok-next.ensures.shorter), more ∙ rw (c.in_ok-next.ensures.exact, pushed) refl);
      shorter = omega (arith, ap length is, c.in_ok-next.ensures.shorter);
    }

pub returns-clause-exact : goal.returns-clause-exact
returns-clause-exact c =
    let s = c.states.invariant.so_far in
    s.2 ∙ more_done OpenBrace state_at s.0 (map settings_of c.states.states.items) _ c.states-test.ensures.0 ∙ rw c.states-test.ensures.1 refl
