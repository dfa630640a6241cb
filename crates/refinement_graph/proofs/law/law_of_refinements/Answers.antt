use Rattle.refinement_graph.proofs.RefinementLaws.{complete_stands, consistent_stands, minimal_stands}
use Rattle.refinement_graph.proofs.law.law_of_refinements.Goals as goal

pub returns-clause-complete : goal.returns-clause-complete
returns-clause-complete c = complete_stands

pub returns-clause-consistent : goal.returns-clause-consistent
returns-clause-consistent c = consistent_stands

pub returns-clause-minimal : goal.returns-clause-minimal
returns-clause-minimal c = minimal_stands
