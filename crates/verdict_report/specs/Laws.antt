-- What a right verdict tells of its demand.
use Rattle.std.specs.Prelude.{◌≡◌, ℕ, Bool, List, Option}
use Rattle.goal_model.specs.declared.item.Part.{Part}
use Rattle.goal_model.specs.declared.item.Wanted.{Wanted}
use Rattle.goal_model.specs.declared.pattern.PatternKind.{PatternKind}
use Rattle.goal_model.specs.Models.{ModelForm}
use Rattle.goal_model.specs.Conditions.{Stands}
use Rattle.verdict_report.specs.declared.report.Verdict.{Verdict}
use Rattle.verdict_report.specs.declared.report.Verdict.TheVariants.{Holds, Fails, Withheld}
use Rattle.verdict_report.specs.Deciding.{DecidesWithin, DecidesBeyond}

-- a demand that holds stands, and one that fails does not; the tableaux that decide them are within the budget. That of one that is withheld
-- is over it
abbrev pub Tells : ModelForm → ℕ → Wanted → List (Part × Bool) → (named : Option PatternKind) → Verdict → Type 0
Tells m budget wanted parts named Holds = Stands m wanted parts × DecidesWithin m budget parts named
Tells m budget wanted parts named Fails = (Stands m wanted parts → ⊥) × DecidesWithin m budget parts named
Tells m budget wanted parts named (Withheld number) = (number ≡ budget) × DecidesBeyond m budget parts named
