use Rattle.std.proofs.Common.{◌<◌, ◌∙◌, arith}
use Rattle.entity_types.specs.View.{written_tree, rows_of}
use Rattle.entity_types.specs.Rows.{count_of}
use Rattle.entity_types.proofs.Sizes.{all_size, exists_size}
use Rattle.entity_types.proofs.size.+size_under.Goals as goal

pub returns-in-All-clause-size : goal.returns-in-All-clause-size
returns-in-All-clause-size t c choice =
    let rows = rows_of c.args.entities.now in
    let some : 0 < count_of rows c.in-All.entity = omega (arith, c.member_count.ensures.several, c.member_count.ensures.count) in
    rw c.in-All.is (c.grouped_size.ensures ∙ rw c.member_count.ensures.count (all_size rows choice (written_tree c.in-All.a.value) (count_of rows c.in-All.entity) c.size_under-in-All.result some (rw c.deref-in-All.ensures at c.size_under-in-All.ensures.size)))

pub returns-in-Exists-clause-size : goal.returns-in-Exists-clause-size
returns-in-Exists-clause-size t c choice =
    let rows = rows_of c.args.entities.now in
    let some : 0 < count_of rows c.in-Exists.entity = omega (arith, c.member_count-in-Exists.ensures.several, c.member_count-in-Exists.ensures.count) in
    rw c.in-Exists.is (c.grouped_size-in-Exists.ensures ∙ rw c.member_count-in-Exists.ensures.count (exists_size rows choice (written_tree c.in-Exists.a.value) (count_of rows c.in-Exists.entity) c.size_under-in-Exists.result some (rw c.deref-in-Exists.ensures at c.size_under-in-Exists.ensures.size)))
