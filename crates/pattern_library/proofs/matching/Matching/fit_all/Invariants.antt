use Rattle.std.proofs.Common.{◌≡◌, true, map, length}
use Rattle.temporal_logic.specs.Trees.{tree_of}
use Rattle.pattern_library.specs.Slots.{slots_of, Finds}
use Rattle.pattern_library.proofs.Listed.{FirstFit}
use Rattle.pattern_library.proofs.matching.Matching.fit_all.Given as goal

abbrev pub invariant-patterns : goal.invariant-patterns
invariant-patterns l = record {
  count : length l.self.slots.items ≡ length l.fn.self.slots.items;
  found : Finds (slots_of l.fn.self) (slots_of l.self) (FirstFit (map tree_of l.patterns) (map tree_of l.formulas) l.place) true;
}
