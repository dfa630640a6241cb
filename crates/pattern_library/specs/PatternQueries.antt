-- The query that decides a pattern, and formulas of which it decides that no trace meets them.
use Rattle.std.specs.Prelude.{◌≡◌, List}
use Rattle.temporal_logic.specs.Ltl.{Ltl}
use Rattle.bound_unfolding.specs.CoreForm.{CoreForm}
use Rattle.bound_unfolding.specs.CoreLists.{cores_of}
use Rattle.goal_model.specs.declared.pattern.PatternKind.{PatternKind}
use Rattle.pattern_library.specs.Patterns.{PatternForm, pattern_of, pattern_list, broken_by}
use Rattle.pattern_library.specs.Instances.{Matches, placeholder_sizes}

-- the positive cores of the subgoals and of the negated parent, over the placeholders
abbrev pub pattern_cores : PatternForm → List CoreForm
pattern_cores p = cores_of (placeholder_sizes p) (pattern_list p)

-- formulas are the subgoals, in order, and the negated parent of an instance of a pattern
abbrev pub AreInstance : PatternKind → List Ltl → Type 0
AreInstance kind list = (parent : Ltl) × (subgoals formulas : List Ltl) × (list ≡ broken_by subgoals parent) × Matches (pattern_of kind) parent subgoals formulas
