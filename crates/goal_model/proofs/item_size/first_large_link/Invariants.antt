use Rattle.std.proofs.Common.{◌≡◌, drop}
use Rattle.goal_model.specs.Models.{contents_of}
use Rattle.goal_model.specs.Items.{items_from}
use Rattle.goal_model.specs.Sizers.{IsReady}
use Rattle.goal_model.specs.Resolution.{sized}
use Rattle.goal_model.proofs.item_size.first_large_link.Given as goal

abbrev pub invariant-links : goal.invariant-links
invariant-links l = record {
  walked : sized (contents_of l.contents) (items_from (contents_of l.contents) 0 (contents_of l.contents).links) ≡ sized (contents_of l.contents) (items_from (contents_of l.contents) l.place (drop l.place (contents_of l.contents).links));
  ready : IsReady l.contents l.sizer;
}
