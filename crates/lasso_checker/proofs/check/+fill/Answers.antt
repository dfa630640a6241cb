use Rattle.std.proofs.Common.{◌+◌, ◌*◌, ◌≤◌, length, arith}
use Rattle.temporal_logic.specs.Lassos.{trace_of}
use Rattle.temporal_logic.specs.Trees.{tree_of}
use Rattle.temporal_logic.specs.Truth.{Truth}
use Rattle.temporal_logic.proofs.Equivalences.{iff_trans}
use Rattle.lasso_checker.specs.Layouts.{Row}
use Rattle.lasso_checker.proofs.Congruence.{applied_iff, combined_iff}
use Rattle.lasso_checker.proofs.KeptRows.{row_kept}
use Rattle.lasso_checker.specs.Scratch.{rows_of, rows_over_both, binary_rows}
use Rattle.lasso_checker.proofs.RowCounts.{room_behind}
use Rattle.lasso_checker.proofs.check.+fill.Goals as goal

pub fill_binary-returns-clause-row : goal.fill_binary-returns-clause-row
fill_binary-returns-clause-row t c i =
    let l = c.args.layout.now in
    let second = c.args.base + l.words in
    let mid = c.fill-2.new.table in
    let T = trace_of c.args.lasso.now in
    let kept = row_kept c.fill.new.table mid c.args.base second l.words l.start l.turn l.turns l.enough (omega arith) c.fill-2.ensures.below in
    iff_trans (c.combine_rows.ensures.row i) (combined_iff (Row l mid c.args.base) (Row l mid second) (Truth T (tree_of c.args.a.now)) (Truth T (tree_of c.args.b.now)) (λ k. iff_trans (kept k) (c.fill.ensures.row k)) c.fill-2.ensures.row i c.args.binary)

pub fill_unary-returns-clause-row : goal.fill_unary-returns-clause-row
fill_unary-returns-clause-row t c i =
    iff_trans (c.apply_to_row.ensures.row i) (applied_iff c.args.unary (Row c.args.layout.now c.fill.new.table c.args.base) (Truth (trace_of c.args.lasso.now) (tree_of c.args.a.now)) c.fill.ensures.row i)

pub fill_binary-fill-requires-2 : goal.fill_binary-fill-requires-2
fill_binary-fill-requires-2 t c =
    let l = c.args.layout.now in
    let room : c.args.base + l.words * rows_over_both (binary_rows c.args.binary) (rows_of (tree_of c.args.a.now)) (rows_of (tree_of c.args.b.now)) ≤ length c.fill.new.table = omega arith in
    (omega arith, (c.requires.layout, room_behind c.args.base l.words (binary_rows c.args.binary) (rows_of (tree_of c.args.a.now)) (rows_of (tree_of c.args.b.now)) (length c.fill.new.table) room))
