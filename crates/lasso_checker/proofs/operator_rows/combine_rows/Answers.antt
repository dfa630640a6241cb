use Rattle.lasso_checker.proofs.operator_rows.combine_rows.Goals as goal

pub returns-in-Release-clause-row : goal.returns-in-Release-clause-row
returns-in-Release-clause-row c i = rw c.in-Release.is (c.wait_rows-in-Release.ensures.row i)

pub returns-in-UnlessWithin-clause-row : goal.returns-in-UnlessWithin-clause-row
returns-in-UnlessWithin-clause-row c i = rw c.in-UnlessWithin.is (c.wait_rows_within-in-UnlessWithin.ensures.row i)

pub returns-in-ReleaseWithin-clause-row : goal.returns-in-ReleaseWithin-clause-row
returns-in-ReleaseWithin-clause-row c i = rw c.in-ReleaseWithin.is (c.wait_rows_within-in-ReleaseWithin.ensures.row i)
