use Rattle.std.proofs.Common.{◌≡◌, ◌++◌, map, length}
use Rattle.std.specs.Vec.Iter.{into_iter_items, into_iter_len}
use Rattle.kaos_program.specs.declared.asking.Asked.TheVariants.{Assignment}
use Rattle.kaos_program.proofs.asking.push_assignment.Given as goal

abbrev pub invariant-items : goal.invariant-items
invariant-items l = record {
  items : l.asked.items ++ map (λ i. Assignment i.label l.cover) (into_iter_items l.item-iterator) ≡ l.fn.asked.items ++ map (λ i. Assignment i.label l.cover) (into_iter_items l.initial.item-iterator);
  left : into_iter_len l.item-iterator ≡ length (into_iter_items l.item-iterator);
}
