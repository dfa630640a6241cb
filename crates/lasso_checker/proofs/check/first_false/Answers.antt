use Rattle.std.proofs.Common.{◌∙◌, refl, sym, arith}
use Rattle.std.proofs.lemmas.Bool.{false≢true}
use Rattle.temporal_logic.specs.Lassos.{trace_of}
use Rattle.temporal_logic.specs.Trees.{tree_of}
use Rattle.temporal_logic.specs.Truth.{Truth}
use Rattle.lasso_checker.proofs.ListOfFormulas.{all_taken, one_more, one_false}
use Rattle.lasso_checker.proofs.check.first_false.Goals as goal

pub returns-then-not-truth_at_start-clause-none : goal.returns-then-not-truth_at_start-clause-none
returns-then-not-truth_at_start-clause-none c =
    let untrue : ¬ (Truth (trace_of c.args.lasso.now) (tree_of c.index-list-index.result) 0) = λ h. false≢true (sym c.if-not-truth_at_start.true ∙ c.truth_at_start.ensures.truth.1 h) in
    (λ t. absurd (false≢true (sym t)), λ h. absurd (one_false (trace_of c.args.lasso.now) c.args.list.now c.formulas.index c.index-list-index.result (omega arith) c.index-list-index.is untrue h))

pub formulas-preserved : goal.formulas-preserved
formulas-preserved c =
    one_more (trace_of c.args.lasso.now) c.args.list.now c.formulas.index c.index-list-index.result (omega arith) c.index-list-index.is c.formulas.invariant (c.truth_at_start.ensures.truth.0 c.if-not-truth_at_start.false)

pub returns-clause-none : goal.returns-clause-none
returns-clause-none c =
    (λ _. all_taken (trace_of c.args.lasso.now) c.args.list.now c.formulas.index (omega arith) c.formulas.invariant, λ _. refl)
