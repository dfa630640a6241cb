use Rattle.std.proofs.Common.{◌≡◌, ◌∙◌, ◌+◌, ◌++◌, map, take, ap, sym}
use Rattle.std.proofs.lemmas.List.{append-nil}
use Rattle.temporal_logic.specs.Trees.{tree_of}
use Rattle.goal_model.specs.declared.demand.Demand.{Demand}
use Rattle.goal_model.specs.ModelViews.{model_of}
use Rattle.goal_model.specs.Demands.{IsAnswerable}
use Rattle.kaos_program.specs.declared.asking.Asked.{Asked}
use Rattle.kaos_program.specs.Asking.{demand_in, demands_in, query_asked}
use Rattle.kaos_program.proofs.AskedDemands.{demands_more, demand_at}
use Rattle.kaos_program.proofs.QueryParts.{list_fits, list_small, cores_more, over_more}
use Rattle.kaos_program.proofs.check.queries.Goals as goal
use Rattle.kaos_program.proofs.check.queries.Goals.{in-Demand+in_ok-query_of-in-Demand+in_ok-push-in-Demand, in-Instance, in-Assignment}

pub query_of-requires-clause-fit : goal.query_of-requires-clause-fit
query_of-requires-clause-fit c =
    let m = model_of c.args.model.now in
    let answerable = demand_at (λ (d : Demand). IsAnswerable m (map tree_of d.list.items)) c.args.asked.now c.asked.one-index c.one-item.result c.in-Demand.demand c.asked-test.true c.one-item.is c.in-Demand.is c.requires.answerable in
    list_fits m c.space-space.result.now c.space-space.ensures.ranges c.in-Demand.demand answerable c.deref.result.now c.deref.ensures.value

pub query_of-requires-clause-small : goal.query_of-requires-clause-small
query_of-requires-clause-small c =
    let m = model_of c.args.model.now in
    let answerable = demand_at (λ (d : Demand). IsAnswerable m (map tree_of d.list.items)) c.args.asked.now c.asked.one-index c.one-item.result c.in-Demand.demand c.asked-test.true c.one-item.is c.in-Demand.is c.requires.answerable in
    list_small m c.space-space.result.now c.space-space.ensures.ranges c.in-Demand.demand answerable c.deref.result.now c.deref.ensures.value

pub asked-preserved : goal.asked-preserved
asked-preserved c =
    let m = model_of c.args.model.now in
    let asked = c.args.asked.now in
    let k = c.asked.one-index in
    let one = c.one-item.result in
    let before = demands_in (take k asked) in
    let more : demands_in (take (k + 1) asked) ≡ before ++ demand_in one = demands_more asked k one c.asked-test.true c.one-item.is in
    elim c.match-one.branch [
      | in-Demand+in_ok-query_of-in-Demand+in_ok-push-in-Demand w ↦ rw w.queries-is (record {
        cores =
            cores_more m c.space-space.result.now c.space-space.ensures.ranges before w.in-Demand.demand c.asked.queries.items w.push.new.self.items w.in_ok-query_of-in-Demand.field-0 w.deref.result.now w.deref.ensures.value c.asked.invariant.cores
            w.in_ok-query_of-in-Demand.ensures.cores w.in_ok-push-in-Demand.ensures.items
            ∙ ap (map (query_asked m)) (sym (more ∙ ap (λ (x : Asked). before ++ demand_in x) w.in-Demand.is));
        over =
            over_more m c.space-space.result.now c.space-space.ensures.ranges c.asked.queries.items w.push.new.self.items w.in_ok-query_of-in-Demand.field-0 c.asked.invariant.over w.in_ok-query_of-in-Demand.ensures.over w.in_ok-push-in-Demand.ensures.items;
      })
      | in-Instance w ↦ rw w.queries-is (record {
        cores = c.asked.invariant.cores ∙ ap (map (query_asked m)) (sym (more ∙ ap (λ (x : Asked). before ++ demand_in x) w.in-Instance.is ∙ append-nil before));
        over = c.asked.invariant.over;
      })
      | in-Assignment w ↦ rw w.queries-is (record {
        cores = c.asked.invariant.cores ∙ ap (map (query_asked m)) (sym (more ∙ ap (λ (x : Asked). before ++ demand_in x) w.in-Assignment.is ∙ append-nil before));
        over = c.asked.invariant.over;
      })
    ]
