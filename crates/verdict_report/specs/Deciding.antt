-- The query that decides a demand: that of its own list, or of the pattern that is named for it, where its formulas are those of an instance.
use Rattle.std.specs.Prelude.{◌≡◌, ℕ, Bool, List, map, Option, Some, None}
use Rattle.temporal_logic.specs.Ltl.{Ltl}
use Rattle.bound_unfolding.specs.CoreForm.{CoreForm}
use Rattle.bound_unfolding.specs.CoreLists.{cores_of}
use Rattle.tableau_rules.specs.Graphs.{IsWithin, IsLarger}
use Rattle.goal_model.specs.declared.item.Part.{Part}
use Rattle.goal_model.specs.declared.pattern.PatternKind.{PatternKind}
use Rattle.goal_model.specs.Models.{ModelForm, sizes_of}
use Rattle.goal_model.specs.Items.{part_formula, signed, list_of}
use Rattle.pattern_library.specs.Patterns.{pattern_of}
use Rattle.pattern_library.specs.Instances.{placeholder_sizes}
use Rattle.pattern_library.specs.PatternQueries.{pattern_cores, AreInstance}

-- the formulas of the parts, without the domain properties
abbrev pub formulas_of : ModelForm → List (Part × Bool) → List Ltl
formulas_of m parts = map (λ p. signed p.1 (part_formula m p.0)) parts

-- the pattern by which formulas are decided: the one that is named, where they are those of an instance of it; else none
abbrev pub IsDecidedBy : List Ltl → (named by : Option PatternKind) → Type 0
IsDecidedBy list None None = Unit {0}
IsDecidedBy list None (Some by) = ⊥
IsDecidedBy list (Some kind) None = AreInstance kind list → ⊥
IsDecidedBy list (Some kind) (Some by) = (by ≡ kind) × AreInstance kind list

-- the sizes of the variables of the query: those of the placeholders, or of the model's variables
abbrev pub deciding_sizes : ModelForm → (by : Option PatternKind) → List ℕ
deciding_sizes m None = sizes_of m
deciding_sizes m (Some kind) = placeholder_sizes (pattern_of kind)

-- the positive cores of a list over the model's variables
abbrev pub query_cores : ModelForm → List Ltl → List CoreForm
query_cores m list = cores_of (sizes_of m) list

-- the query of a demand's own list: the cores of the domain properties, and of the formulas of the parts
abbrev pub demand_cores : ModelForm → List (Part × Bool) → List CoreForm
demand_cores m parts = query_cores m (list_of m parts)

-- the query that decides a demand
abbrev pub deciding_cores : ModelForm → (by : Option PatternKind) → List (Part × Bool) → List CoreForm
deciding_cores m None parts = demand_cores m parts
deciding_cores m (Some kind) parts = pattern_cores (pattern_of kind)

-- the tableau of the query that decides a demand has no more nodes than the budget
abbrev pub DecidesWithin : ModelForm → ℕ → List (Part × Bool) → (named : Option PatternKind) → Type 0
DecidesWithin m budget parts named = (by : Option PatternKind) × IsDecidedBy (formulas_of m parts) named by × IsWithin (deciding_sizes m by) (deciding_cores m by parts) budget

-- it has more nodes than the budget
abbrev pub DecidesBeyond : ModelForm → ℕ → List (Part × Bool) → (named : Option PatternKind) → Type 0
DecidesBeyond m budget parts named = (by : Option PatternKind) × IsDecidedBy (formulas_of m parts) named by × IsLarger (deciding_sizes m by) (deciding_cores m by parts) budget
