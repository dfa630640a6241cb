use Rattle.std.proofs.Common.{◌<◌, arith}
use Rattle.temporal_logic.specs.Trees.{tree_of}
use Rattle.lasso_checker.specs.Scratch.{rows_of, words_of}
use Rattle.lasso_checker.proofs.RowCounts.{rows_some, some_room}
use Rattle.lasso_checker.proofs.check.truth_at_start.Goals as goal

pub get_bit-requires : goal.get_bit-requires
get_bit-requires c =
    let lasso = c.args.lasso.now in
    let f = tree_of c.args.f.now in
    let some : 0 < words_of lasso = omega (arith, lasso.loops) in
    let product = some_room (words_of lasso) (rows_of f) some (rows_some f) in
    omega (arith, product)
