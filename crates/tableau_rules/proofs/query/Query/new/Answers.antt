use Rattle.std.proofs.Common.{ap, subst, sym, ◌∙◌, ◌≤◌, List, map, length}
use Rattle.bound_unfolding.specs.declared.core_form.Core.{Core}
use Rattle.bound_unfolding.specs.CoreView.{core_tree_of}
use Rattle.formula_table.specs.Closures.{closure_of}
use Rattle.formula_table.specs.Tables.{closure_in}
use Rattle.tableau_rules.proofs.QueryClosures.{room_for}
use Rattle.tableau_rules.proofs.query.Query.new.Goals as goal

pub add-requires-clause-room : goal.add-requires-clause-room
add-requires-clause-room c =
    let few = subst (λ (xs : List Core). length (closure_of (map core_tree_of xs)) ≤ 4096) (sym c.deref-core-items.ensures.value) c.requires in
    room_for core_tree_of c.deref-core-items.result.now c.cores.core-index c.core-item.result c.cores-test.true c.core-item.is (closure_in c.cores.begun.table)
    (c.cores.invariant.begun.closed ∙ ap closure_of c.cores.invariant.so_far) 4096 few
