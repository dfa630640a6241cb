use Rattle.std.proofs.Common.{◌≡◌, ◌∷◌, Option, subst, sym}
use Rattle.std.specs.Prelude.{MatchOption, IfOk}
use Rattle.goal_model.specs.declared.item_size.Blamed.{Blamed}
use Rattle.goal_model.specs.declared.refusal.RefusalKind.TheVariants.{TooLarge}
use Rattle.goal_model.specs.Models.{contents_of}
use Rattle.goal_model.specs.Items.{domain_item, items_from}
use Rattle.goal_model.specs.Resolution.{Outcome, made, refuses, sized}
use Rattle.goal_model.proofs.item_size.first_large.Goals as goal

pub returns-in-Some : goal.returns-in-Some
returns-in-Some c =
    let m = contents_of c.args.contents.now in
    let others = items_from m 0 m.links in
    subst (λ (o : Option Blamed). MatchOption o (sized m (domain_item ∷ others) ≡ sized m others) (λ b. sized m (domain_item ∷ others) ≡ refuses TooLarge b.statement b.name)) c.in-Some.is (c.in_ok-blamed.ensures others)

pub returns : goal.returns
returns c =
    let m = contents_of c.args.contents.now in
    let others = items_from m 0 m.links in
    let same : sized m (domain_item ∷ others) ≡ sized m others =
    subst (λ (o : Option Blamed). MatchOption o (sized m (domain_item ∷ others) ≡ sized m others) (λ b. sized m (domain_item ∷ others) ≡ refuses TooLarge b.statement b.name)) c.in-None.is (c.in_ok-blamed.ensures others) in
    subst (λ (w : Outcome). IfOk c.first_large_link.result (λ o. MatchOption o (w ≡ made m) (λ b. w ≡ refuses TooLarge b.statement b.name))) (sym same) c.first_large_link.ensures
