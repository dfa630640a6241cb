use Rattle.std.proofs.Common.{◌≡◌, ℕ, ◌<◌, true, length, slice_index_or}
use Rattle.goal_model.specs.ModelViews.{model_of}
use Rattle.goal_model.specs.Items.{no_goal}
use Rattle.goal_model.specs.Marking.{IsMarked, unmarked}
use Rattle.refinement_graph.specs.Marking.{AreSound}
use Rattle.refinement_graph.proofs.assurance.assured.Given as goal

abbrev pub invariant-rounds : goal.invariant-rounds
invariant-rounds l = record {
  size : length l.marks.items ≡ length (model_of l.model).goals;
  begun : (g : ℕ) → g < length (model_of l.model).goals → (slice_index_or (model_of l.model).goals g no_goal).is_expected ≡ true → IsMarked l.marks.items g;
  sound : AreSound (model_of l.model) l.holds l.marks.items;
}

abbrev pub decreases-rounds : goal.decreases-rounds
decreases-rounds l = unmarked l.marks.items
