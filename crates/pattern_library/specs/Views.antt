-- What patterns and bindings stand for, wherever their parts lie in memory.
use Rattle.std.specs.Prelude.{List, map}
use Rattle.temporal_logic.specs.Ltl.{Ltl}
use Rattle.temporal_logic.specs.Trees.{tree_of}
use Rattle.pattern_library.specs.declared.pattern.Pattern.{Pattern}
use Rattle.pattern_library.specs.declared.matching.Binding.{Binding}
use Rattle.pattern_library.specs.Patterns.{PatternForm}

abbrev pub pattern_form : Pattern → PatternForm
pattern_form p = record { placeholders = p.placeholders; parent = tree_of p.parent; subgoals = map tree_of p.subgoals.items }

-- the formula of each placeholder, in order
abbrev pub formulas_of : Binding → List Ltl
formulas_of b = map tree_of b.formulas.items
