use Rattle.temporal_logic.proofs.Loops.{lasso_loops}
use Rattle.temporal_logic.proofs.Fitting.{lasso_is_periodic}
use Rattle.temporal_logic.proofs.law.law_of_lassos.Goals as goal

pub returns-clause-loops : goal.returns-clause-loops
returns-clause-loops c = lasso_loops

pub returns-clause-periodic : goal.returns-clause-periodic
returns-clause-periodic c = lasso_is_periodic
