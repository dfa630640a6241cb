use Rattle.temporal_logic.proofs.Agreement.{truth_below, state_truth_below}
use Rattle.temporal_logic.proofs.law.law_of_agreement.Goals as goal

pub returns-clause-along : goal.returns-clause-along
returns-clause-along c n f v t u same i = truth_below n t u same f v i

pub returns-clause-state : goal.returns-clause-state
returns-clause-state c = state_truth_below
