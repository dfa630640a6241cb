use Rattle.std.proofs.Common.{ℕ, List, ◌-◌, length, refl, ap, ◌∙◌, arith}
use Rattle.std.proofs.lemmas.Result.{err_from_is_err_and}
use Rattle.std.specs.Global.{Vec}
use Rattle.model_tokens.specs.declared.token.Sign.TheVariants.{Comma}
use Rattle.model_text.specs.Reading.{behind_mark, name_at}
use Rattle.model_text.proofs.Turns.{fails_so, more_more, more_done}
use Rattle.model_text.proofs.part_reader.names.Goals as goal

pub returns-in_err-name-2-clause-exact : goal.returns-in_err-name-2-clause-exact
returns-in_err-name-2-clause-exact c =
    let p = err_from_is_err_and c.from_residual-in_err-name-2.result c.from_residual-in_err-name-2.ensures.1 in
    let s = c.names.invariant.fuel in
    let is = c.names-test.ensures in
    let more = s.2 ∙ more_more Comma name_at s.0 c.names.names.items _ _ (omega (arith, ap length is)) (ap (behind_mark Comma) is) in
    rw (p.1, p.2) (fails_so (λ n. n) (λ (ns : Vec (List ℕ)). ns.items) c.in_err-name-2.field-0.0 _ _ _ c.in_err-name-2.ensures.exact (λ e. more ∙ rw e refl))

pub names-preserved : goal.names-preserved
names-preserved c =
    let s = c.names.invariant.fuel in
    let is = c.names-test.ensures in
    let more = s.2 ∙ more_more Comma name_at s.0 c.names.names.items _ _ (omega (arith, ap length is)) (ap (behind_mark Comma) is) in
    record {
      shorter = omega (arith, ap length is, c.in_ok-name-2.ensures.shorter);
      fuel = (s.0 - 1, omega (arith, ap length is, c.in_ok-name-2.ensures.shorter), more ∙ rw (c.in_ok-name-2.ensures.exact, c.in_ok-push-2.ensures.items) refl);
    }

pub returns-clause-exact : goal.returns-clause-exact
returns-clause-exact c =
    let s = c.names.invariant.fuel in
    s.2 ∙ more_done Comma name_at s.0 c.names.names.items _ c.names-test.ensures.0 ∙ rw c.names-test.ensures.1 refl
