use Rattle.std.proofs.Common.{◌≡◌, ◌<◌, length, map, subst}
use Rattle.std.specs.Prelude.{IfOk}
use Rattle.std.proofs.lemmas.List.{length-map}
use Rattle.goal_model.specs.Models.{LinkForm, link_of, LinkIsOf}
use Rattle.goal_model.specs.ModelViews.{model_of}
use Rattle.goal_model.specs.Items.{item_of, no_link, link_items_of}
use Rattle.goal_model.proofs.Tables.{all_at, viewed_at}
use Rattle.goal_model.proofs.item.link_items.Goals as goal

pub items_of_link-requires : goal.items_of_link-requires
items_of_link-requires c =
    let links = c.args.model.now.contents.links.items in
    let inside : c.args.link < length links = rw length-map at c.requires in
    all_at (LinkIsOf (model_of c.args.model.now)) link_of links c.args.link c.index.result.now inside c.index.ensures c.args.model.now.well_formed.parts.links

pub returns : goal.returns
returns c =
    let links = c.args.model.now.contents.links.items in
    let inside : c.args.link < length links = rw length-map at c.requires in
    subst (λ (l : LinkForm). IfOk c.items_of_link.result (λ is. map item_of is.items ≡ link_items_of (model_of c.args.model.now) c.args.link l))
    (viewed_at link_of (λ (l : LinkForm). l) links c.args.link c.index.result.now no_link inside c.index.ensures)
    c.items_of_link.ensures
