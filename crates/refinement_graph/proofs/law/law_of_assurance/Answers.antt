use Rattle.refinement_graph.proofs.Supporting.{assured_true}
use Rattle.refinement_graph.proofs.law.law_of_assurance.Goals as goal

pub returns : goal.returns
returns c = assured_true
