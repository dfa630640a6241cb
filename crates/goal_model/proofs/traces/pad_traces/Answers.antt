use Rattle.std.proofs.Common.{◌<◌, ◌≤◌, ◌∙◌, length, map}
use Rattle.std.proofs.lemmas.List.{length-map}
use Rattle.goal_model.specs.Models.{trace_of}
use Rattle.goal_model.specs.Drafts.{padded_trace}
use Rattle.goal_model.proofs.Padding.{changed_at, changed_all}
use Rattle.goal_model.proofs.traces.pad_traces.Goals as goal

pub traces-preserved : goal.traces-preserved
traces-preserved c =
    let old = map trace_of c.args.traces.now in
    let inside : c.traces.trace-index < length old = rw length-map c.traces-test.true in
    changed_at trace_of (padded_trace c.args.count) old c.traces.traces c.traces.trace-index c.trace-item.result c.pad_trace.new.trace inside c.traces.invariant c.in_ok-pad_trace.ensures

pub returns : goal.returns
returns c =
    let old = map trace_of c.args.traces.now in
    let past : length old ≤ c.traces.trace-index = rw length-map c.traces-test.false in
    c.traces.invariant ∙ changed_all (padded_trace c.args.count) old c.traces.trace-index past
