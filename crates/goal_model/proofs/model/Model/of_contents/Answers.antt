use Rattle.std.proofs.Common.{◌≡◌}
use Rattle.goal_model.specs.declared.refusal.RefusalKind.TheVariants.{TooLarge}
use Rattle.goal_model.specs.declared.item_size.Blamed.{Blamed}
use Rattle.goal_model.specs.Models.{contents_of}
use Rattle.goal_model.specs.Items.{items_of}
use Rattle.goal_model.specs.Resolution.{made, refuses}
use Rattle.goal_model.specs.Outcomes.{sized_all}
use Rattle.goal_model.proofs.SizedItems.{small_if_made, if_none}
use Rattle.goal_model.proofs.model.Model.of_contents.Goals as goal

pub invariant_of-result-clause-small : goal.invariant_of-result-clause-small
invariant_of-result-clause-small c =
    let m = contents_of c.args.contents in
    let none = if_none c.in_ok-blamed.field-0 (sized_all m ≡ made m) (λ (b : Blamed). sized_all m ≡ refuses TooLarge b.statement b.name) c.in-None.is c.in_ok-blamed.ensures in
    small_if_made m m (items_of m) none
