use Rattle.std.proofs.Common.{◌≡◌, ◌++◌, List, map, drop}
use Rattle.goal_model.specs.Models.{contents_of}
use Rattle.goal_model.specs.Items.{ItemForm, item_of}
use Rattle.goal_model.specs.Sizers.{IsReady}
use Rattle.goal_model.specs.Resolution.{sized}
use Rattle.goal_model.proofs.item_size.first_large_item.Given as goal

abbrev pub invariant-items : goal.invariant-items
invariant-items l = record {
  walked : (others : List ItemForm) → sized (contents_of l.contents) (map item_of l.items ++ others) ≡ sized (contents_of l.contents) (map item_of (drop l.item-index l.items) ++ others);
  ready : IsReady l.contents l.sizer;
}
