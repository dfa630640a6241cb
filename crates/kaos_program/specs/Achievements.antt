-- What a complete operationalisation that holds promises.
use Rattle.std.specs.Prelude.{◌≡◌, ℕ, List, None}
use Rattle.goal_model.specs.declared.item.Wanted.TheVariants.{NoTrace}
use Rattle.goal_model.specs.Models.{ModelForm}
use Rattle.goal_model.specs.Items.{operation_complete_item}
use Rattle.operationalisation.specs.Operationalisations.{Achieves}
use Rattle.verdict_report.specs.declared.report.Verdict.TheVariants.{Holds}
use Rattle.verdict_report.specs.declared.report.Entry.{Entry}
use Rattle.verdict_report.specs.Reports.{Question, of_traces}

-- where it is asked whether requirements are complete for a goal, and the entry holds, they make the goal true at the start of each trace of
-- their operations
abbrev pub IsAchieved : ModelForm → Question → Entry → Type 0
IsAchieved m question e = (statement goal : ℕ) (requirements : List ℕ) → of_traces (operation_complete_item m statement goal requirements).label (operation_complete_item m statement goal requirements).parts NoTrace None ≡ question → e.verdict ≡ Holds → Achieves m requirements goal
