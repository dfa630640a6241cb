-- Which lists of formulas are small enough to be answered, as a test.
use Rattle.std.specs.Prelude.{ℕ, nat_le, Bool, true, ◌&&◌, List, length}
use Rattle.std.specs.List.{list_all}
use Rattle.temporal_logic.specs.Ltl.{Ltl}
use Rattle.bound_unfolding.specs.CoreForm.{levels}
use Rattle.bound_unfolding.specs.CoreTree.{core_tree}
use Rattle.bound_unfolding.specs.CoreLists.{cores_of}
use Rattle.formula_table.specs.Closures.{closure_of}

-- the positive cores have at most 4,096 distinct subformulas together, and at most 1,000 levels each
abbrev pub is_small_list : List ℕ → List Ltl → Bool
is_small_list sizes list = nat_le (length (closure_of (cores_of sizes list))) 4096 && list_all (λ f. nat_le (levels (core_tree sizes true f)) 1000) list
