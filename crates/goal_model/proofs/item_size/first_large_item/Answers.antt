use Rattle.goal_model.specs.Models.{contents_of}
use Rattle.goal_model.specs.Items.{item_of}
use Rattle.goal_model.specs.KnownParts.{IsLinkItem}
use Rattle.goal_model.proofs.Tables.{all_at}
use Rattle.goal_model.proofs.item_size.first_large_item.Goals as goal

pub is_small-requires-clause-known : goal.is_small-requires-clause-known
is_small-requires-clause-known c = (all_at (IsLinkItem (contents_of c.args.contents.now)) item_of c.args.items.now c.items.item-index c.item-item.result c.items-test.true c.item-item.is c.requires.known).parts

pub blame-requires : goal.blame-requires
blame-requires c = (all_at (IsLinkItem (contents_of c.args.contents.now)) item_of c.args.items.now c.items.item-index c.item-item.result c.items-test.true c.item-item.is c.requires.known).named
