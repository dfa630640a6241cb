-- A binding under way: a slot for each placeholder, which has its formula once it was met.
use Rattle.std.specs.Prelude.{◌≡◌, ◌↔◌, ℕ, Bool, true, false, List, map, Option, Some, None, unwrap_or, option_map, slice_index_or}
use Rattle.temporal_logic.specs.Ltl.{Ltl, truth}
use Rattle.temporal_logic.specs.Trees.{tree_of}
use Rattle.pattern_library.specs.declared.matching.Matching.{Matching}

abbrev pub slots_of : Matching → List (Option Ltl)
slots_of m = map (option_map (λ f. tree_of f.now)) m.slots.items

-- the formula of a slot, and `true` where there is none
abbrev pub filled : Option Ltl → Ltl
filled slot = unwrap_or slot truth

-- formulas for all placeholders agree with the slots that are filled
abbrev pub Agree : List (Option Ltl) → (formulas : List Ltl) → Type 0
Agree slots formulas = (k : ℕ) (f : Ltl) → slice_index_or slots k None ≡ Some f → slice_index_or formulas k truth ≡ f

-- what a step has to find of formulas for all placeholders: where it succeeds, those that agree with the slots behind it are those that
-- agreed with the slots before and are so; where it fails, none that agreed with the slots before is so
abbrev pub Finds : (before behind : List (Option Ltl)) → (IsSo : List Ltl → Type 0) → (found : Bool) → Type 0
Finds before behind IsSo true = (formulas : List Ltl) → Agree behind formulas ↔ (Agree before formulas × IsSo formulas)
Finds before behind IsSo false = (formulas : List Ltl) → Agree before formulas → IsSo formulas → ⊥
