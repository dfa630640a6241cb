-- The numbers with which the program ends, and the statuses that reports and truths give.
use Rattle.std.specs.Prelude.{ℕ, Bool, true, false, List, ◌==◌, if◌then◌else◌}
use Rattle.std.specs.List.{list_all}
use Rattle.verdict_report.specs.declared.report.Report.{Report}
use Rattle.verdict_report.specs.Reports.{failed_count, withheld_count}
use Rattle.kaos_program.specs.declared.status.Status.{Status}
use Rattle.kaos_program.specs.declared.status.Status.TheVariants.{Held, Failed, Refused, BadWords, ReadFault, WriteFault, Withheld, OutOfMemory}

abbrev pub code_of : Status → ℕ
code_of Held = 0
code_of Failed = 1
code_of Refused = 2
code_of BadWords = 3
code_of ReadFault = 4
code_of WriteFault = 5
code_of Withheld = 6
code_of OutOfMemory = 7

-- the whole answer to a text was written
abbrev pub is_answer : Status → Bool
is_answer Held = true
is_answer Failed = true
is_answer Refused = true
is_answer Withheld = true
is_answer status = false

-- whether some demand fails, or else some is withheld
abbrev pub status_of : Report → Status
status_of report = if failed_count report == 0 then (if withheld_count report == 0 then Held else Withheld) else Failed

-- whether some goal is false on some trace
abbrev pub status_of_truths : List (List Bool) → Status
status_of_truths rows = if list_all (list_all (λ b. b)) rows then Held else Failed
