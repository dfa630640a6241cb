use Rattle.std.proofs.Common.{length}
use Rattle.temporal_logic.specs.Lassos.{trace_of}
use Rattle.temporal_logic.proofs.Decided.{truth_repeats}
use Rattle.temporal_logic.proofs.Loops.{lasso_loops}
use Rattle.lasso_checker.proofs.law.law_of_the_loop.Goals as goal

pub returns : goal.returns
returns c = record {
  repeats = λ l f i h.
      let r = truth_repeats (trace_of l) (length l.prefix.items) (length l.cycle.items) (lasso_loops l) f in
      (r.ahead i h, r.back i h);
}
