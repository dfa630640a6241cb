use Rattle.std.proofs.Common.{◌+◌}
use Rattle.temporal_logic.proofs.Equivalences.{iff_trans}
use Rattle.lasso_checker.specs.Layouts.{Row}
use Rattle.lasso_checker.proofs.Constants.{true_until, true_until_before, unless_false, unless_false_before}
use Rattle.lasso_checker.proofs.operator_rows.apply_to_row.Goals as goal

pub returns-in-Eventually-clause-row : goal.returns-in-Eventually-clause-row
returns-in-Eventually-clause-row c i =
    let l = c.args.layout.now in
    let t = c.put_behind_true.new.table in
    rw c.in-Eventually.is (iff_trans (c.wait_rows.ensures.row i) (true_until (Row l t c.args.base) (Row l t (c.args.base + l.words)) (Row l c.args.table.now c.args.base) c.put_behind_true.ensures.first c.put_behind_true.ensures.second i))

pub returns-in-Always-clause-row : goal.returns-in-Always-clause-row
returns-in-Always-clause-row c i =
    let l = c.args.layout.now in
    let t = c.put_before_false.new.table in
    rw c.in-Always.is (iff_trans (c.wait_rows-in-Always.ensures.row i) (unless_false (Row l t c.args.base) (Row l t (c.args.base + l.words)) (Row l c.args.table.now c.args.base) c.put_before_false.ensures.first c.put_before_false.ensures.second i))

pub returns-in-EventuallyWithin-clause-row : goal.returns-in-EventuallyWithin-clause-row
returns-in-EventuallyWithin-clause-row c i =
    let l = c.args.layout.now in
    let t = c.put_behind_true-in-EventuallyWithin.new.table in
    rw c.in-EventuallyWithin.is (iff_trans (c.wait_rows_within.ensures.row i) (true_until_before (Row l t c.args.base) (Row l t (c.args.base + l.words)) (Row l c.args.table.now c.args.base) c.put_behind_true-in-EventuallyWithin.ensures.first c.put_behind_true-in-EventuallyWithin.ensures.second i (i + c.in-EventuallyWithin.bound + 1)))

pub returns-in-AlwaysWithin-clause-row : goal.returns-in-AlwaysWithin-clause-row
returns-in-AlwaysWithin-clause-row c i =
    let l = c.args.layout.now in
    let t = c.put_before_false-in-AlwaysWithin.new.table in
    rw c.in-AlwaysWithin.is (iff_trans (c.wait_rows_within-in-AlwaysWithin.ensures.row i) (unless_false_before (Row l t c.args.base) (Row l t (c.args.base + l.words)) (Row l c.args.table.now c.args.base) c.put_before_false-in-AlwaysWithin.ensures.first c.put_before_false-in-AlwaysWithin.ensures.second i (i + c.in-AlwaysWithin.bound + 1)))
