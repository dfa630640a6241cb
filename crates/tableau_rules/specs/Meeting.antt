-- When a trace meets a node, and what that says of the node's kids.
use Rattle.std.specs.Prelude.{◌≡◌, ℕ, ◌+◌, ◌<◌, ◌↔◌, List, length, slice_index, All, Any}
use Rattle.std.specs.Int.{bit_at}
use Rattle.temporal_logic.specs.Truth.{Trace}
use Rattle.bound_unfolding.specs.CoreForm.{CoreForm, CoreTruth}
use Rattle.formula_table.specs.Closures.{formula_at}
use Rattle.tableau_rules.specs.Rules.{Rule, clash, step}
use Rattle.tableau_rules.specs.Nodes.{NodeForm, stepped, kids}

-- the trace's indexes at the position lie in the sets
abbrev pub IndexesLie : Trace → ℕ → List ℕ → Type 0
IndexesLie t i now = (x : ℕ) → x < length now → bit_at (slice_index now x) (t i x) ≡ 1

-- the trace does at the position what the node asks
pub record MeetsNode (t : Trace) (closure : List CoreForm) (i : ℕ) (n : NodeForm) : Type 0 where
  pub now : IndexesLie t i n.now
  pub todo : All (λ f. CoreTruth t (formula_at closure f) i) n.todo
  pub next : All (λ f. CoreTruth t (formula_at closure f) (i + 1)) n.next

-- the trace meets a node exactly where it meets some kid, which after a step is one position on
abbrev pub KeepsMeeting : Trace → List CoreForm → List ℕ → ℕ → NodeForm → Rule → Type 0
KeepsMeeting t closure full i n clash = ¬ (MeetsNode t closure i n)
KeepsMeeting t closure full i n step = MeetsNode t closure i n ↔ IndexesLie t i n.now × MeetsNode t closure (i + 1) (stepped full n)
KeepsMeeting t closure full i n rule = MeetsNode t closure i n ↔ Any (MeetsNode t closure i) (kids closure full n)
