use Rattle.goal_model.specs.ModelViews.{model_of}
use Rattle.refinement_graph.specs.Marking.{IsRoundBelow}
use Rattle.refinement_graph.proofs.assurance.mark_round.Given as goal

abbrev pub invariant-links : goal.invariant-links
invariant-links l = IsRoundBelow (model_of l.model) l.held l.place l.fn.marks l.marks l.is_new
