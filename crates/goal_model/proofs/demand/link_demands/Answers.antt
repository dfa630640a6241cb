use Rattle.std.proofs.Common.{◌≡◌, ◌∙◌, ◌++◌, true, List, length, map, refl, sym, ap, subst, rules, arith}
use Rattle.std.specs.Prelude.{All, None, slice_index_or}
use Rattle.std.specs.List.{list_all}
use Rattle.std.specs.Vec.Iter.{into_iter_items}
use Rattle.std.proofs.lemmas.Bool.{and_parts}
use Rattle.std.proofs.lemmas.List.Elements.{All-nil, All-head, All-tail, All-push}
use Rattle.temporal_logic.specs.Trees.{tree_of}
use Rattle.goal_model.specs.declared.demand.Demand.{Demand}
use Rattle.goal_model.specs.declared.item.Item.{Item}
use Rattle.goal_model.specs.ModelViews.{model_of}
use Rattle.goal_model.specs.KnownParts.{PartIsOf, IsLinkItem}
use Rattle.goal_model.specs.Items.{ItemForm, item_of, no_link, link_items_of, is_small_item, list_of}
use Rattle.goal_model.specs.Demands.{demand_of, demands_of, IsAnswerable}
use Rattle.goal_model.proofs.LinkItems.{items_known}
use Rattle.goal_model.proofs.DemandLists.{item_answerable, link_small, no_demand, demand_more}
use Rattle.goal_model.proofs.demand.link_demands.Goals as goal

pub items-init : goal.items-init
items-init c =
    let m = model_of c.args.model.now in
    let link = slice_index_or m.links c.args.link no_link in
    let are : map item_of (into_iter_items c.into_iter-item-iterator.result) ≡ link_items_of m c.args.link link = ap (map item_of) c.into_iter-item-iterator.ensures.into_iter_gives.0 ∙ c.in_ok-items.ensures in
    record {
      demands = subst (λ (ds : List Demand). map demand_of ds ++ demands_of m (map item_of (into_iter_items c.into_iter-item-iterator.result)) ≡ demands_of m (link_items_of m c.args.link link)) (sym c.new-demands.ensures.items) (ap (demands_of m) are);
      answerable = subst (All (λ d. IsAnswerable m (map tree_of d.list.items))) (sym c.new-demands.ensures.items) (All-nil (λ d. IsAnswerable m (map tree_of d.list.items)));
      known = subst (All (IsLinkItem m)) (sym are) (items_known m c.args.link link c.requires (c.args.model.now.well_formed.parts.links c.args.link no_link c.requires));
      small = subst (λ (is : List ItemForm). list_all (is_small_item m) is ≡ true) (sym are) (link_small m c.args.model.now.small c.args.link c.requires);
      left = search rules;
    }

pub demand_list-requires : goal.demand_list-requires
demand_list-requires c =
    let m = model_of c.args.model.now in
    let known = subst (λ (is : List Item). All (IsLinkItem m) (map item_of is)) c.in-Some.ensures.steps.0 c.items.invariant.known in
    subst (All (λ p. PartIsOf m p.0)) (sym c.deref.ensures.value) (All-head (IsLinkItem m) (item_of c.in-Some.item) (map item_of (into_iter_items c.next.new.self)) known).parts

pub items-preserved-in-Some-item : goal.items-preserved-in-Some-item
items-preserved-in-Some-item c =
    let m = model_of c.args.model.now in
    let i = c.in-Some.item in
    let left = map item_of (into_iter_items c.next.new.self) in
    let whole = demands_of m (link_items_of m c.args.link (slice_index_or m.links c.args.link no_link)) in
    let d : Demand = record { label = i.label; list = c.in_ok-list.list; wanted = c.in-Some-wanted.wanted } in
    let list : map tree_of d.list.items ≡ list_of m i.parts.items = rw c.deref.ensures.value at c.in_ok-list.ensures in
    let steps = c.in-Some.ensures.steps.0 in
    let demands = subst (λ (is : List Item). map demand_of c.items.demands.items ++ demands_of m (map item_of is) ≡ whole) steps c.items.invariant.demands in
    let known = subst (λ (is : List Item). All (IsLinkItem m) (map item_of is)) steps c.items.invariant.known in
    let small = and_parts (is_small_item m (item_of i)) (list_all (is_small_item m) left) (subst (λ (is : List Item). list_all (is_small_item m) (map item_of is) ≡ true) steps c.items.invariant.small) in
    let answerable = item_answerable m c.args.model.now.well_formed.parts (item_of i) d.wanted c.in-Some-wanted.is (All-head (IsLinkItem m) (item_of i) left known).parts small.0 in
    record {
      demands = subst (λ (ds : List Demand). map demand_of ds ++ demands_of m left ≡ whole) (sym c.in_ok-push.ensures.items) (demand_more m i d c.items.demands.items left c.in-Some-wanted.is refl list ∙ demands);
      answerable = subst (All (λ d. IsAnswerable m (map tree_of d.list.items))) (sym c.in_ok-push.ensures.items) (All-push (λ d. IsAnswerable m (map tree_of d.list.items)) c.items.demands.items d c.items.invariant.answerable (subst (IsAnswerable m) (sym list) answerable));
      known = All-tail (IsLinkItem m) (item_of i) left known;
      small = small.1;
      left = omega (arith, c.items.invariant.left, c.in-Some.ensures.steps.1, ap length steps);
    }

pub items-preserved : goal.items-preserved
items-preserved c =
    let m = model_of c.args.model.now in
    let i = c.in-Some.item in
    let left = map item_of (into_iter_items c.next.new.self) in
    let whole = demands_of m (link_items_of m c.args.link (slice_index_or m.links c.args.link no_link)) in
    let steps = c.in-Some.ensures.steps.0 in
    let asks : i.wanted ≡ None = c.in_default.is in
    let demands = subst (λ (is : List Item). map demand_of c.items.demands.items ++ demands_of m (map item_of is) ≡ whole) steps c.items.invariant.demands in
    let known = subst (λ (is : List Item). All (IsLinkItem m) (map item_of is)) steps c.items.invariant.known in
    let small = and_parts (is_small_item m (item_of i)) (list_all (is_small_item m) left) (subst (λ (is : List Item). list_all (is_small_item m) (map item_of is) ≡ true) steps c.items.invariant.small) in
    record {
      demands = ap (λ ds. map demand_of c.items.demands.items ++ ds) (sym (no_demand m (item_of i) left asks)) ∙ demands;
      answerable = c.items.invariant.answerable;
      known = All-tail (IsLinkItem m) (item_of i) left known;
      small = small.1;
      left = omega (arith, c.items.invariant.left, c.in-Some.ensures.steps.1, ap length steps);
    }
