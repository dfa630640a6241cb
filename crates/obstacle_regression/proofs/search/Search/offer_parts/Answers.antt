use Rattle.std.proofs.Common.{subst, sym}
use Rattle.std.specs.Prelude.{All}
use Rattle.std.specs.Borrow.{Bor}
use Rattle.bound_unfolding.specs.declared.core_form.Core.{Core}
use Rattle.bound_unfolding.specs.CoreView.{core_tree_of}
use Rattle.formula_table.specs.Tables.{IsSubformula}
use Rattle.obstacle_regression.proofs.search.Search.offer_parts.Goals as goal

pub offer_rules-requires-clause-part : goal.offer_rules-requires-clause-part
offer_rules-requires-clause-part c =
    let core = core_tree_of c.args.core.now in
    let inside : All (λ (p : Bor Core). IsSubformula (core_tree_of p.now) core) c.as_slice-parts.result.now = rw c.as_slice-parts.ensures.value c.in_ok-list.ensures.inside in
    subst (λ (p : Bor Core). IsSubformula (core_tree_of p.now) core) (sym c.part-item.is) (inside c.parts.part-index c.part-item.result c.parts-test.true)
