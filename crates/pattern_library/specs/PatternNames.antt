-- The names of the patterns, as models and reports have them.
use Rattle.std.specs.Prelude.{ℕ, List, codes}
use Rattle.goal_model.specs.declared.pattern.PatternKind.{PatternKind}
use Rattle.goal_model.specs.declared.pattern.PatternKind.TheVariants.{Milestone, Cases, Guard, Split, Induction}

abbrev pub pattern_name : PatternKind → List ℕ
pattern_name Milestone = codes "milestone"
pattern_name Cases = codes "cases"
pattern_name Guard = codes "guard"
pattern_name Split = codes "split"
pattern_name Induction = codes "induction"
