use Rattle.obstacle_regression.proofs.Monotone.{replaced_true}
use Rattle.obstacle_regression.proofs.law.law_of_replacement.Goals as goal

pub returns : goal.returns
returns c = record { truth = λ t l k stronger core i. replaced_true t l k stronger core i }
