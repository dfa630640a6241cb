-- Formulas that stand in a closure once each.
use Rattle.std.specs.Prelude.{List, [], ◌∷◌, IsTrue}
use Rattle.std.specs.List.{list_any}
use Rattle.bound_unfolding.specs.CoreForm.{CoreForm}
use Rattle.formula_table.specs.Closures.{is_same}

-- a formula is among those of a closure
abbrev pub IsMember : List CoreForm → CoreForm → Type 0
IsMember closure c = IsTrue (list_any (is_same c) closure)

-- no formula stands in a closure twice
abbrev pub IsDistinct : List CoreForm → Type 0
IsDistinct [] = Unit {0}
IsDistinct (c ∷ cs) = ¬ (IsMember cs c) × IsDistinct cs
