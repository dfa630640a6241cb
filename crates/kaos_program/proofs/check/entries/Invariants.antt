use Rattle.std.proofs.Common.{◌≡◌, ◌++◌, length}
use Rattle.std.specs.Vec.Iter.{into_iter_items, into_iter_len}
use Rattle.kaos_program.specs.Asking.{demands_in, patterns_in, entries_of}
use Rattle.kaos_program.proofs.check.entries.Given as goal

abbrev pub invariant-asked : goal.invariant-asked
invariant-asked l = record {
  entries : l.entries.items ++ entries_of (into_iter_items l.one-iterator) (into_iter_items l.answers) (into_iter_items l.by_patterns) ≡ entries_of l.fn.asked.items l.fn.answers.items l.fn.by_patterns.items;
  answered : length (demands_in (into_iter_items l.one-iterator)) ≡ length (into_iter_items l.answers);
  decided : length (patterns_in (into_iter_items l.one-iterator)) ≡ length (into_iter_items l.by_patterns);
  asked_left : into_iter_len l.one-iterator ≡ length (into_iter_items l.one-iterator);
  answers_left : into_iter_len l.answers ≡ length (into_iter_items l.answers);
  patterns_left : into_iter_len l.by_patterns ≡ length (into_iter_items l.by_patterns);
}
