use Rattle.lasso_builder.proofs.walk.closed_walk.Goals as goal

pub laps-requires-clause-levels : goal.laps-requires-clause-levels
laps-requires-clause-levels c = rw c.deref.ensures.value c.in_ok-table.ensures.levels
