use Rattle.std.proofs.Common.{◌≡◌, ℕ, List, ◌++◌, ◌∷◌, [], ◌-◌, length, map, refl, ap, ◌∙◌, arith}
use Rattle.std.specs.Global.{Vec}
use Rattle.std.proofs.lemmas.Result.{err_from_is_err_and}
use Rattle.std.proofs.lemmas.List.{map-append}
use Rattle.model_tokens.specs.declared.token.Sign.TheVariants.{Comma}
use Rattle.model_text.specs.Reading.{behind_mark}
use Rattle.model_text.specs.declared.raw_formula.RawValue.{RawValue}
use Rattle.model_text.specs.StatementReading.{setting_of, set_at}
use Rattle.model_text.proofs.Turns.{fails_so, more_more, more_done}
use Rattle.model_text.proofs.trace_reader.sets.Goals as goal

pub returns-in_err-next-clause-exact : goal.returns-in_err-next-clause-exact
returns-in_err-next-clause-exact c =
    let p = err_from_is_err_and c.from_residual-in_err-next.result c.from_residual-in_err-next.ensures.1 in
    let s = c.sets.invariant.so_far in
    let is = c.sets-test.ensures in
    let more = s.2 ∙ more_more Comma set_at s.0 (map setting_of c.sets.sets.items) _ _ (omega (arith, ap length is)) (ap (behind_mark Comma) is) in
    rw (p.1, p.2) (fails_so setting_of (λ (xs : Vec (List ℕ × RawValue)). map setting_of xs.items) c.in_err-next.field-0.0 _ _ _ c.in_err-next.ensures.exact (λ e. more ∙ rw e refl))

pub sets-preserved : goal.sets-preserved
sets-preserved c =
    let s = c.sets.invariant.so_far in
    let is = c.sets-test.ensures in
    let more = s.2 ∙ more_more Comma set_at s.0 (map setting_of c.sets.sets.items) _ _ (omega (arith, ap length is)) (ap (behind_mark Comma) is) in
    let pushed : map setting_of c.push-in-sets.new.self.items ≡ map setting_of c.sets.sets.items ++ setting_of c.in_ok-next.next ∷ [] = ap (map setting_of) c.in_ok-push-2.ensures.items ∙ map-append setting_of c.sets.sets.items (c.in_ok-next.next ∷ []) in
    record {
      so_far = (s.0 - 1, omega (arith, ap length is, c.in_ok-next.ensures.shorter), more ∙ rw (c.in_ok-next.ensures.exact, pushed) refl);
      shorter = omega (arith, ap length is, c.in_ok-next.ensures.shorter);
    }

pub returns-clause-exact : goal.returns-clause-exact
returns-clause-exact c =
    let s = c.sets.invariant.so_far in
    s.2 ∙ more_done Comma set_at s.0 (map setting_of c.sets.sets.items) _ c.sets-test.ensures.0 ∙ rw c.sets-test.ensures.1 refl
