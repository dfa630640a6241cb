use Rattle.std.proofs.Common.{take}
use Rattle.std.specs.List.{AllZip}
use Rattle.kaos_program.specs.Asking.{patterns_in}
use Rattle.kaos_program.proofs.AskedEntries.{IsPatternAnswer}
use Rattle.kaos_program.proofs.check.found_by_patterns.Given as goal

abbrev pub invariant-asked : goal.invariant-asked
invariant-asked g l = AllZip (IsPatternAnswer l.budget) (patterns_in (take l.one-index l.fn.asked)) l.answers.items
