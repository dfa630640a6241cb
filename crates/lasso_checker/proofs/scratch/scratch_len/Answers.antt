use Rattle.std.proofs.Common.{◌≡◌, ◌+◌, ◌*◌, ◌≤◌, arith}
use Rattle.temporal_logic.specs.Shapes.{depth_of}
use Rattle.temporal_logic.specs.Trees.{tree_of}
use Rattle.lasso_checker.specs.Scratch.{words_of}
use Rattle.lasso_checker.proofs.RowCounts.{rows_within, bound_times}
use Rattle.lasso_checker.proofs.scratch.scratch_len.Goals as goal

pub returns-clause-bound : goal.returns-clause-bound
returns-clause-bound c h =
    let fewer = rows_within (tree_of c.args.f.now) h in
    let same : c.of.result.words ≡ words_of c.args.lasso.now = omega (arith, c.of.result.enough, c.of.ensures.layout.start, c.of.ensures.layout.turn) in
    let few : c.row_count.result ≤ 2 * depth_of (tree_of c.args.f.now) + 2 = omega (arith, fewer) in
    rw (← same) (bound_times c.of.result.words c.row_count.result (2 * depth_of (tree_of c.args.f.now) + 2) c.saturating_mul.result few (omega arith))
