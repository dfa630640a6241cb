use Rattle.std.proofs.Common.{◌≡◌, ◌++◌, List, length}
use Rattle.std.specs.List.{AllZip}
use Rattle.std.specs.Vec.Iter.{into_iter_items, into_iter_len}
use Rattle.goal_model.specs.declared.demand.Demand.{Demand}
use Rattle.goal_model.specs.Models.{link_of}
use Rattle.goal_model.specs.ModelViews.{model_of}
use Rattle.verdict_report.specs.Reports.{named_for}
use Rattle.kaos_program.specs.declared.asking.Asked.{Asked}
use Rattle.kaos_program.specs.Asking.{Poses}
use Rattle.kaos_program.proofs.asking.push_demands.Given as goal

abbrev pub invariant-demands : goal.invariant-demands
invariant-demands l = record {
  asked : (done : List Demand) × (more : List Asked) × (done ++ into_iter_items l.demand-iterator ≡ l.fn.demands.items) × (l.asked.items ≡ l.fn.asked.items ++ more)
      × AllZip (λ d one. Poses (model_of l.model) (named_for (link_of l.link) d.label.kind) d one) done more;
  left : into_iter_len l.demand-iterator ≡ length (into_iter_items l.demand-iterator);
}
