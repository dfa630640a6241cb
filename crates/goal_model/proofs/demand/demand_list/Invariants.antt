use Rattle.std.proofs.Common.{◌≡◌, map, take}
use Rattle.temporal_logic.specs.Trees.{tree_of}
use Rattle.goal_model.specs.ModelViews.{model_of}
use Rattle.goal_model.specs.Items.{list_of}
use Rattle.goal_model.proofs.demand.demand_list.Given as goal

abbrev pub invariant-parts : goal.invariant-parts
invariant-parts l = map tree_of l.list.items ≡ list_of (model_of l.model) (take l.part-index l.parts)
