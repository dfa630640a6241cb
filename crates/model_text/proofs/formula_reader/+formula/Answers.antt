use Rattle.std.proofs.Common.{◌-◌, length, refl, ap, ◌∙◌, arith}
use Rattle.std.proofs.lemmas.Result.{err_from_is_err_and}
use Rattle.state_space.specs.declared.keyword.Keyword.TheVariants as keywords
use Rattle.model_text.specs.RawTrees.{conj, disj}
use Rattle.model_text.specs.RawView.{raw_tree}
use Rattle.model_text.specs.Reading.{behind_keyword}
use Rattle.model_text.specs.FormulaReading.{tempo_with, and_with, prefix_at}
use Rattle.model_text.proofs.FormulaTurns.{implies_fails, chain_more, chain_done}
use Rattle.model_text.proofs.Turns.{fails_so}
use Rattle.model_text.proofs.formula_reader.+formula.Goals as goal

pub and-returns-in_err-right-clause-exact : goal.and-returns-in_err-right-clause-exact
and-returns-in_err-right-clause-exact t c =
    let p = err_from_is_err_and c.from_residual-in_err-right.result c.from_residual-in_err-right.ensures.1 in
    let s = c.operands.invariant.so_far in
    let is = c.operands-test.ensures in
    let more = s.2 ∙ chain_more (behind_keyword keywords.And) conj (tempo_with (prefix_at c.args.depth)) s.0 (raw_tree c.operands.formula) _ _ (omega (arith, ap length is)) (ap (behind_keyword keywords.And) is) in
    rw (p.1, p.2) (fails_so raw_tree raw_tree c.in_err-right.field-0.0 _ _ _ c.in_err-right.ensures.exact (λ e. more ∙ rw e refl))

pub and-operands-preserved : goal.and-operands-preserved
and-operands-preserved t c =
    let s = c.operands.invariant.so_far in
    let is = c.operands-test.ensures in
    let more = s.2 ∙ chain_more (behind_keyword keywords.And) conj (tempo_with (prefix_at c.args.depth)) s.0 (raw_tree c.operands.formula) _ _ (omega (arith, ap length is)) (ap (behind_keyword keywords.And) is) in
    record {
      so_far = (s.0 - 1, omega (arith, ap length is, c.in_ok-right.ensures.shorter), more ∙ rw (c.in_ok-right.ensures.exact, c.in_ok-formula-2.ensures) refl);
      shorter = omega (arith, ap length is, c.in_ok-right.ensures.shorter);
    }

pub and-returns-clause-exact : goal.and-returns-clause-exact
and-returns-clause-exact t c =
    let s = c.operands.invariant.so_far in
    s.2 ∙ chain_done (behind_keyword keywords.And) conj (tempo_with (prefix_at c.args.depth)) s.0 (raw_tree c.operands.formula) _ c.operands-test.ensures.0 ∙ rw c.operands-test.ensures.1 refl

pub or-returns-in_err-right-clause-exact : goal.or-returns-in_err-right-clause-exact
or-returns-in_err-right-clause-exact t c =
    let p = err_from_is_err_and c.from_residual-in_err-right.result c.from_residual-in_err-right.ensures.1 in
    let s = c.operands.invariant.so_far in
    let is = c.operands-test.ensures in
    let more = s.2 ∙ chain_more (behind_keyword keywords.Or) disj (and_with (prefix_at c.args.depth)) s.0 (raw_tree c.operands.formula) _ _ (omega (arith, ap length is)) (ap (behind_keyword keywords.Or) is) in
    rw (p.1, p.2) (fails_so raw_tree raw_tree c.in_err-right.field-0.0 _ _ _ c.in_err-right.ensures.exact (λ e. more ∙ rw e refl))

pub or-operands-preserved : goal.or-operands-preserved
or-operands-preserved t c =
    let s = c.operands.invariant.so_far in
    let is = c.operands-test.ensures in
    let more = s.2 ∙ chain_more (behind_keyword keywords.Or) disj (and_with (prefix_at c.args.depth)) s.0 (raw_tree c.operands.formula) _ _ (omega (arith, ap length is)) (ap (behind_keyword keywords.Or) is) in
    record {
      so_far = (s.0 - 1, omega (arith, ap length is, c.in_ok-right.ensures.shorter), more ∙ rw (c.in_ok-right.ensures.exact, c.in_ok-formula-2.ensures) refl);
      shorter = omega (arith, ap length is, c.in_ok-right.ensures.shorter);
    }

pub or-returns-clause-exact : goal.or-returns-clause-exact
or-returns-clause-exact t c =
    let s = c.operands.invariant.so_far in
    s.2 ∙ chain_done (behind_keyword keywords.Or) disj (and_with (prefix_at c.args.depth)) s.0 (raw_tree c.operands.formula) _ c.operands-test.ensures.0 ∙ rw c.operands-test.ensures.1 refl

pub implies-returns-in_err-premise-clause-exact : goal.implies-returns-in_err-premise-clause-exact
implies-returns-in_err-premise-clause-exact t c n h =
    let p = err_from_is_err_and c.from_residual.result c.from_residual.ensures.1 in
    rw (p.1, p.2) (fails_so raw_tree raw_tree c.in_err-premise.field-0.0 _ _ _ c.in_err-premise.ensures.exact (implies_fails (prefix_at c.args.depth) n _ _))
