-- The closure that a table holds, and what a call may add to it.
use Rattle.std.specs.Prelude.{ℕ, ◌≡◌, ◌≤◌, ◌<◌, ◌⊎◌, List, length}
use Rattle.bound_unfolding.specs.CoreForm.{CoreForm, core_true, core_false, lit, both, either, after, core_until, core_release}
use Rattle.formula_table.specs.declared.shape.Shape.{Shape}
use Rattle.formula_table.specs.declared.table.Table.{Table}
use Rattle.formula_table.specs.Closures.{formula_at, with_core}
use Rattle.formula_table.specs.Decoding.{decoded}

-- the shapes of a table, by number
abbrev pub shapes_of : Table → List Shape
shapes_of table = table.shapes.keys

-- the formulas of a table, by number
abbrev pub closure_in : Table → List CoreForm
closure_in table = decoded (shapes_of table)

-- the operands of a core come behind those that are there, and all that stands in them
abbrev pub with_operands : CoreForm → List CoreForm → List CoreForm
with_operands (both a b) closure = with_core b (with_core a closure)
with_operands (either a b) closure = with_core b (with_core a closure)
with_operands (after a) closure = with_core a closure
with_operands (core_until a b) closure = with_core b (with_core a closure)
with_operands (core_release a b) closure = with_core b (with_core a closure)
with_operands _ closure = closure

-- the formulas of a closure are in another one at the same numbers
abbrev pub IsKept : (old new : List CoreForm) → Type 0
IsKept old new = (length old ≤ length new) × ((k : ℕ) → k < length old → formula_at new k ≡ formula_at old k)

-- each formula behind the old ones has a property
abbrev pub AddsOnly : (CoreForm → Type 0) → (old new : List CoreForm) → Type 0
AddsOnly P old new = (k : ℕ) → length old ≤ k → k < length new → P (formula_at new k)

-- a tree is a core, or stands somewhere in it
abbrev pub IsSubformula : CoreForm → CoreForm → Type 0
IsSubformula c core_true = c ≡ core_true
IsSubformula c core_false = c ≡ core_false
IsSubformula c (lit x set) = c ≡ lit x set
IsSubformula c (both a b) = (c ≡ both a b) ⊎ (IsSubformula c a ⊎ IsSubformula c b)
IsSubformula c (either a b) = (c ≡ either a b) ⊎ (IsSubformula c a ⊎ IsSubformula c b)
IsSubformula c (after a) = (c ≡ after a) ⊎ IsSubformula c a
IsSubformula c (core_until a b) = (c ≡ core_until a b) ⊎ (IsSubformula c a ⊎ IsSubformula c b)
IsSubformula c (core_release a b) = (c ≡ core_release a b) ⊎ (IsSubformula c a ⊎ IsSubformula c b)
