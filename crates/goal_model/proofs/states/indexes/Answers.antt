use Rattle.std.proofs.Common.{map, ◌∙◌}
use Rattle.std.proofs.lemmas.List.{length-set}
use Rattle.state_space.specs.Ranges.{form_of}
use Rattle.goal_model.specs.Scopes.{scope_of}
use Rattle.goal_model.specs.States.{setting_of, state_in}
use Rattle.goal_model.proofs.Walking.{value_taken, value_stops}
use Rattle.goal_model.proofs.WrittenParts.{range_found}
use Rattle.goal_model.proofs.states.indexes.Goals as goal

pub returns-in_err-index : goal.returns-in_err-index
returns-in_err-index c =
    let s = scope_of c.args.scope.now in
    value_stops (λ v. v.items) c.from_residual-in_err-index.result s c.sets.indexes.items c.args.sets.now c.sets.at c.index-sets-at.result c.in_ok-x.x.0 (form_of c.range_of.result.now) (state_in s (map setting_of c.args.sets.now)) c.in_err-index.field-0.0
    c.sets-test.true c.index-sets-at.is c.in_ok-x.ensures.exact (range_found s c.in_ok-x.x.0 (form_of c.range_of.result.now) c.range_of.ensures.range) c.in_ok-apart.ensures c.sets.invariant.walked c.in_err-index.ensures.exact c.from_residual-in_err-index.ensures.1

pub sets-preserved : goal.sets-preserved
sets-preserved c =
    let s = scope_of c.args.scope.now in
    record {
      size = length-set c.sets.indexes.items c.in_ok-x.x.0 c.in_ok-index.index ∙ c.sets.invariant.size;
      walked = value_taken s c.sets.indexes.items c.args.sets.now c.sets.at c.index-sets-at.result c.in_ok-x.x.0 (form_of c.range_of.result.now) (state_in s (map setting_of c.args.sets.now)) c.in_ok-index.index
          c.sets-test.true c.index-sets-at.is c.in_ok-x.ensures.exact (range_found s c.in_ok-x.x.0 (form_of c.range_of.result.now) c.range_of.ensures.range) c.in_ok-apart.ensures c.sets.invariant.walked c.in_ok-index.ensures.exact;
    }
