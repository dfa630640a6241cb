-- Queries: cores that a trace over variables of given sizes is to meet.
use Rattle.std.specs.Prelude.{ℕ, List, length, All}
use Rattle.temporal_logic.specs.Truth.{Trace}
use Rattle.temporal_logic.specs.Shapes.{VariablesBelow}
use Rattle.bound_unfolding.specs.CoreForm.{CoreForm, as_ltl, CoreTruth}

-- the core's literals are of variables that have a size
abbrev pub IsOver : List ℕ → CoreForm → Type 0
IsOver sizes core = VariablesBelow (length sizes) (as_ltl core)

-- each of the cores is true at the start of the trace
abbrev pub MeetsAll : Trace → List CoreForm → Type 0
MeetsAll t cores = All (λ c. CoreTruth t c 0) cores
