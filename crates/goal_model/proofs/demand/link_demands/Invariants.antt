use Rattle.std.proofs.Common.{◌≡◌, ◌++◌, true, map, length}
use Rattle.std.specs.Prelude.{All, slice_index_or}
use Rattle.std.specs.List.{list_all}
use Rattle.std.specs.Vec.Iter.{into_iter_items, into_iter_len}
use Rattle.temporal_logic.specs.Trees.{tree_of}
use Rattle.goal_model.specs.ModelViews.{model_of}
use Rattle.goal_model.specs.KnownParts.{IsLinkItem}
use Rattle.goal_model.specs.Items.{item_of, no_link, link_items_of, is_small_item}
use Rattle.goal_model.specs.Demands.{demand_of, demands_of, IsAnswerable}
use Rattle.goal_model.proofs.demand.link_demands.Given as goal

abbrev pub invariant-items : goal.invariant-items
invariant-items l = record {
  demands : map demand_of l.demands.items ++ demands_of (model_of l.model) (map item_of (into_iter_items l.item-iterator)) ≡ demands_of (model_of l.model) (link_items_of (model_of l.model) l.link (slice_index_or (model_of l.model).links l.link no_link));
  answerable : All (λ d. IsAnswerable (model_of l.model) (map tree_of d.list.items)) l.demands.items;
  known : All (IsLinkItem (model_of l.model)) (map item_of (into_iter_items l.item-iterator));
  small : list_all (is_small_item (model_of l.model)) (map item_of (into_iter_items l.item-iterator)) ≡ true;
  left : into_iter_len l.item-iterator ≡ length (into_iter_items l.item-iterator);
}
