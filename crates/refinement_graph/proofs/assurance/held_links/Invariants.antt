use Rattle.std.proofs.Common.{◌≡◌}
use Rattle.goal_model.specs.ModelViews.{model_of}
use Rattle.refinement_graph.specs.Assurance.{first_item}
use Rattle.refinement_graph.specs.Marking.{AreHeldBelow}
use Rattle.refinement_graph.proofs.assurance.held_links.Given as goal

abbrev pub invariant-links : goal.invariant-links
invariant-links l = record {
  first : l.first ≡ first_item (model_of l.model) l.link-index;
  held : AreHeldBelow (model_of l.model) l.holds l.link-index l.held.items;
}
