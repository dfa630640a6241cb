-- How large a core is, counted as far as one over its limits.
use Rattle.std.specs.Prelude.{◌≡◌, min}
use Rattle.bound_unfolding.specs.CoreForm.{CoreForm, nodes, levels}
use Rattle.obstacle_regression.specs.declared.extent.Extent.{Extent}

-- the counts are those of a core
pub record IsExtentOf (e : Extent) (c : CoreForm) : Type 0 where
  pub nodes_are : e.nodes ≡ min (nodes c) 4097
  pub levels_are : e.levels ≡ min (levels c) 1001
