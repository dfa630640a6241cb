use Rattle.agent_capabilities.proofs.Covering.{covered_truth, unseen_named, uncontrolled_named}
use Rattle.agent_capabilities.proofs.law.law_of_coverage.Goals as goal

pub returns : goal.returns
returns c = record {
  truth = λ agent f e t u same i. covered_truth agent t u same f e i;
  unseen = λ agent f x e. unseen_named agent f x e;
  uncontrolled = λ agent f x e. uncontrolled_named agent f x e;
}
