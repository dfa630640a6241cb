use Rattle.temporal_logic.proofs.Decided.{truth_decided}
use Rattle.temporal_logic.proofs.law.law_of_decision.Goals as goal

pub returns : goal.returns
returns c = record { decided = truth_decided }
