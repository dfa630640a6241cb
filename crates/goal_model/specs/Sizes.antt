-- What is measured of a list of formulas.
use Rattle.std.specs.Prelude.{◌≡◌, ◌↔◌, ◌≤◌, ℕ, nat_le, min, Bool, true, false, IsTrue, List, All, length, if◌then◌else◌}
use Rattle.temporal_logic.specs.Ltl.{Ltl}
use Rattle.bound_unfolding.specs.CoreForm.{levels, nodes}
use Rattle.bound_unfolding.specs.CoreTree.{core_tree}
use Rattle.bound_unfolding.specs.CoreLists.{cores_of}
use Rattle.formula_table.specs.Closures.{closure_of}
use Rattle.formula_table.specs.SmallLists.{AreSmall}
use Rattle.formula_table.specs.Tables.{closure_in}
use Rattle.goal_model.specs.declared.list_size.Measured.{Measured}
use Rattle.goal_model.specs.declared.list_size.Weight.{Weight}

-- it is known whether a list of formulas over variables of these sizes is small, and where it is, the table has the closure of its cores
pub record Measures (sizes : List ℕ) (list : List Ltl) (measured : Measured) : Type 0 where
  pub small : IsTrue measured.is_small ↔ AreSmall sizes list
  pub closure : IsTrue measured.is_small → closure_in measured.table ≡ closure_of (cores_of sizes list)

-- how many formulas a core adds to a closure at most; 4,097 where these are more than 4,096, or where it has more than 1,000 levels
abbrev pub weight : List ℕ → Bool → Ltl → ℕ
weight sizes positive f = if nat_le (levels (core_tree sizes positive f)) 1000 then min (nodes (core_tree sizes positive f)) 4097 else 4097

-- the weights of a formula and of its negation
abbrev pub both_weights : List ℕ → Ltl → ℕ × ℕ
both_weights sizes f = (weight sizes true f, weight sizes false f)

abbrev pub both_of : Weight → ℕ × ℕ
both_of w = (w.positive, w.negative)

-- where a total is at most 4,096, the closure of a list's cores has no more formulas than that, and no core more than 1,000 levels
abbrev pub IsBounded : List ℕ → List Ltl → ℕ → Type 0
IsBounded sizes list total = total ≤ 4096 → (length (closure_of (cores_of sizes list)) ≤ total) × All (λ f. levels (core_tree sizes true f) ≤ 1000) list
