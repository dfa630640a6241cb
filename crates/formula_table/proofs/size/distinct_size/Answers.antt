use Rattle.std.proofs.Common.{◌≡◌, ◌≤◌, length, map, ap, ◌∙◌, arith}
use Rattle.state_space.specs.Spaces.{sizes}
use Rattle.temporal_logic.specs.Trees.{tree_of}
use Rattle.bound_unfolding.specs.CoreLists.{cores_of}
use Rattle.formula_table.specs.Closures.{with_cores, closure_of}
use Rattle.formula_table.specs.Tables.{closure_in}
use Rattle.formula_table.proofs.Decodings.{decoded_length}
use Rattle.formula_table.proofs.size.distinct_size.Goals as goal

pub returns-in-Ok : goal.returns-in-Ok
returns-in-Ok c =
    let table = c.put_all.new.table in
    let cores = cores_of (sizes c.args.space.now) (map tree_of c.args.list.now) in
    let e = decoded_length table.shapes.keys in
    let few : length (closure_in table) ≤ 4096 = omega (arith, e, table.few) in
    let all : length (closure_in table) ≡ length (closure_of cores) = ap length (c.in-Ok.ensures.put ∙ ap (with_cores cores) c.new-table.ensures.empty) in
    omega (arith, few, all, c.len.ensures.length)
