-- When the core of a side of a rule is built.
use Rattle.std.specs.Prelude.{Bool, not, Option, Some, None}
use Rattle.bound_unfolding.specs.CoreForm.{CoreForm}
use Rattle.bound_unfolding.specs.CoreView.{core_tree_of}
use Rattle.bound_unfolding.specs.declared.core_form.Core.{Core}
use Rattle.formula_table.specs.Closures.{is_same}
use Rattle.obstacle_regression.specs.Candidates.{is_small}

-- it is there, or it is too large for any candidate
abbrev pub is_built : Option Core → CoreForm → Bool
is_built (Some core) c = is_same (core_tree_of core) c
is_built None c = not (is_small 0 c)
