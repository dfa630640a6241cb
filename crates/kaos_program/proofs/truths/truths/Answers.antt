use Rattle.std.proofs.Common.{sym, subst}
use Rattle.std.specs.Prelude.{All}
use Rattle.goal_model.specs.Models.{sizes_of, TraceIsOver}
use Rattle.goal_model.specs.ModelViews.{model_of}
use Rattle.kaos_program.proofs.TruthRows.{trace_fits, rows_more}
use Rattle.kaos_program.proofs.truths.truths.Goals as goal

pub truths_on-requires : goal.truths_on-requires
truths_on-requires c =
    let ns = sizes_of (model_of c.args.model.now) in
    record { of_space = trace_fits ns c.traces-traces.result.now c.traces.trace-index c.trace-item.result (subst (All (TraceIsOver ns)) (sym c.traces-traces.ensures) c.args.model.now.well_formed.traces) c.traces-test.true c.trace-item.is }

pub traces-preserved : goal.traces-preserved
traces-preserved c =
    rows_more (model_of c.args.model.now).goals c.traces-traces.result.now c.traces.rows.items _ c.traces.trace-index c.trace-item.result _ c.traces-test.true c.trace-item.is c.traces.invariant c.in_ok-truths_on.ensures.truths c.in_ok-push.ensures.items
