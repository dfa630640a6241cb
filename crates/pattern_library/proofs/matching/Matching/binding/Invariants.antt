use Rattle.std.proofs.Common.{◌≡◌, map, take}
use Rattle.std.specs.Prelude.{option_map}
use Rattle.temporal_logic.specs.Trees.{tree_of}
use Rattle.pattern_library.specs.Slots.{filled}
use Rattle.pattern_library.proofs.matching.Matching.binding.Given as goal

abbrev pub invariant-slots : goal.invariant-slots
invariant-slots l = map tree_of l.formulas.items ≡ map filled (map (option_map (λ f. tree_of f.now)) (take l.slot-index l.slots))
