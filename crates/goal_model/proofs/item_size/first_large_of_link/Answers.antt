use Rattle.std.proofs.Common.{◌≡◌, ◌<◌, ◌++◌, ◌∙◌, List, length, map, sym, ap, subst}
use Rattle.std.specs.Prelude.{All, IfOk, MatchOption}
use Rattle.std.proofs.lemmas.List.{length-map}
use Rattle.goal_model.specs.declared.refusal.RefusalKind.TheVariants.{TooLarge}
use Rattle.goal_model.specs.Models.{LinkForm, contents_of, link_of, LinkIsOf}
use Rattle.goal_model.specs.Items.{ItemForm, item_of, no_link, link_items_of}
use Rattle.goal_model.specs.KnownParts.{IsLinkItem}
use Rattle.goal_model.specs.Resolution.{refuses, sized}
use Rattle.goal_model.proofs.Tables.{all_at, viewed_at}
use Rattle.goal_model.proofs.LinkItems.{items_known}
use Rattle.goal_model.proofs.item_size.first_large_of_link.Goals as goal

pub items_of_link-requires : goal.items_of_link-requires
items_of_link-requires c =
    let inside : c.args.place < length c.args.contents.now.links.items = rw length-map at c.requires.known in
    all_at (LinkIsOf (contents_of c.args.contents.now)) link_of c.args.contents.now.links.items c.args.place c.index.result.now inside c.index.ensures c.requires.fit.links

pub first_large_item-requires-clause-known : goal.first_large_item-requires-clause-known
first_large_item-requires-clause-known c =
    let m = contents_of c.args.contents.now in
    let inside : c.args.place < length c.args.contents.now.links.items = rw length-map at c.requires.known in
    let known = all_at (LinkIsOf m) link_of c.args.contents.now.links.items c.args.place c.index.result.now inside c.index.ensures c.requires.fit.links in
    subst (All (IsLinkItem m)) (sym (ap (map item_of) c.deref.ensures.value ∙ c.in_ok-items.ensures)) (items_known m c.args.place (link_of c.index.result.now) c.requires.known known)

pub returns-clause-first : goal.returns-clause-first
returns-clause-first c others =
    let m = contents_of c.args.contents.now in
    let inside : c.args.place < length c.args.contents.now.links.items = rw length-map at c.requires.known in
    subst (λ (is : List ItemForm). IfOk c.first_large_item.result (λ o. MatchOption o (sized m (is ++ others) ≡ sized m others) (λ b. sized m (is ++ others) ≡ refuses TooLarge b.statement b.name)))
    (ap (map item_of) c.deref.ensures.value ∙ c.in_ok-items.ensures ∙ ap (link_items_of m c.args.place) (viewed_at link_of (λ (l : LinkForm). l) c.args.contents.now.links.items c.args.place c.index.result.now no_link inside c.index.ensures))
    (c.first_large_item.ensures.first others)
