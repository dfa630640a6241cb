use Rattle.std.proofs.Common.{◌≡◌, ◌++◌, arith, ◌+◌, ◌<◌, ◌∙◌, Option, length, drop, subst}
use Rattle.std.specs.Prelude.{MatchOption, slice_index_or}
use Rattle.std.proofs.lemmas.List.{length-map}
use Rattle.goal_model.specs.declared.item_size.Blamed.{Blamed}
use Rattle.goal_model.specs.declared.refusal.RefusalKind.TheVariants.{TooLarge}
use Rattle.goal_model.specs.Models.{contents_of, link_of}
use Rattle.goal_model.specs.Items.{no_link, link_items_of, items_from}
use Rattle.goal_model.specs.Resolution.{refuses, sized}
use Rattle.goal_model.proofs.SizedItems.{links_at}
use Rattle.goal_model.proofs.item_size.first_large_link.Goals as goal

pub returns-in-Some : goal.returns-in-Some
returns-in-Some c =
    let m = contents_of c.args.contents.now in
    let inside : c.links.place < length m.links = omega (arith, c.links-test.true, c.len-place-end.ensures, length-map c.args.contents.now.links.items link_of) in
    let here = link_items_of m c.links.place (slice_index_or m.links c.links.place no_link) in
    let others = items_from m (c.links.place + 1) (drop (c.links.place + 1) m.links) in
    c.links.invariant.walked ∙ links_at m m.links c.links.place inside
    ∙ subst (λ (o : Option Blamed). MatchOption o (sized m (here ++ others) ≡ sized m others) (λ b. sized m (here ++ others) ≡ refuses TooLarge b.statement b.name)) c.in-Some.is (c.in_ok-blamed.ensures.first others)
