use Rattle.std.proofs.Common.{◌≡◌, ◌++◌, ◌∷◌, [], ◌-◌, length, map, refl, ap, ◌∙◌, arith}
use Rattle.std.specs.Global.{Vec}
use Rattle.model_text.specs.declared.raw_formula.RawValue.{RawValue}
use Rattle.std.proofs.lemmas.Result.{err_from_is_err_and}
use Rattle.std.proofs.lemmas.List.{map-append}
use Rattle.model_tokens.specs.declared.token.Sign.TheVariants.{Comma}
use Rattle.model_text.specs.RawView.{written}
use Rattle.model_text.specs.Reading.{behind_mark}
use Rattle.model_text.proofs.FormulaTurns.{values_more, values_done}
use Rattle.model_text.proofs.Turns.{fails_so}
use Rattle.model_text.proofs.formula_reader.values.Goals as goal

pub returns-in_err-next-clause-exact : goal.returns-in_err-next-clause-exact
returns-in_err-next-clause-exact c =
    let p = err_from_is_err_and c.from_residual-in_err-next.result c.from_residual-in_err-next.ensures.1 in
    let s = c.values.invariant.so_far in
    let is = c.values-test.ensures in
    let more = s.2 ∙ values_more s.0 (map written c.values.values.items) _ _ (omega (arith, ap length is)) (ap (behind_mark Comma) is) in
    rw (p.1, p.2) (fails_so written (λ (vs : Vec RawValue). map written vs.items) c.in_err-next.field-0.0 _ _ _ c.in_err-next.ensures.exact (λ e. more ∙ rw e refl))

pub values-preserved : goal.values-preserved
values-preserved c =
    let s = c.values.invariant.so_far in
    let is = c.values-test.ensures in
    let more = s.2 ∙ values_more s.0 (map written c.values.values.items) _ _ (omega (arith, ap length is)) (ap (behind_mark Comma) is) in
    let pushed : map written c.push-in-values.new.self.items ≡ map written c.values.values.items ++ written c.in_ok-next.next ∷ [] = ap (map written) c.in_ok-push-2.ensures.items ∙ map-append written c.values.values.items (c.in_ok-next.next ∷ []) in
    record {
      so_far = (s.0 - 1, omega (arith, ap length is, c.in_ok-next.ensures.shorter), more ∙ rw (c.in_ok-next.ensures.exact, pushed) refl);
      shorter = omega (arith, ap length is, c.in_ok-next.ensures.shorter);
    }

pub returns-clause-exact : goal.returns-clause-exact
returns-clause-exact c =
    let s = c.values.invariant.so_far in
    s.2 ∙ values_done s.0 (map written c.values.values.items) _ c.values-test.ensures.0 ∙ rw c.values-test.ensures.1 refl
