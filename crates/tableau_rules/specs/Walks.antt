-- Walks in the tableau of a query that close to a loop, and the states along them.
use Rattle.std.specs.Prelude.{◌≡◌, ℕ, ◌+◌, ◌-◌, ◌%◌, ◌<◌, ◌≤◌, ◌⊎◌, Bool, true, false, List, [], ◌∷◌, length, map, nat_lt, if◌then◌else◌, slice_get, slice_index_or, Some, IsTrue, All, Contains}
use Rattle.std.specs.Int.{trailing_zeros, w64}
use Rattle.state_space.specs.Fitting.{ValuesFit}
use Rattle.temporal_logic.specs.Rows.{from_lists}
use Rattle.bound_unfolding.specs.CoreForm.{CoreForm}
use Rattle.formula_table.specs.Closures.{formula_at, closure_of}
use Rattle.tableau_rules.specs.Rules.{fulfils}
use Rattle.state_space.specs.Members.{full_of}
use Rattle.tableau_rules.specs.Nodes.{NodeForm, carries, chosen, node_rule, kids, root_of}
use Rattle.tableau_rules.specs.Certificates.{is_until}
use Rattle.tableau_rules.specs.Queries.{MeetsAll}

-- what stands past the end of a list of nodes
abbrev pub no_node : NodeForm
no_node = record { todo = []; now = []; next = [] }

-- the node at a place: of the stem, and from its end on of the loop, over and over
abbrev pub node_at : List NodeForm → List NodeForm → ℕ → NodeForm
node_at stem loop k =
    if nat_lt k (length stem) then slice_index_or stem k no_node else slice_index_or loop ((k - length stem) % length loop) no_node

-- it is the turn of the until e, the rule lets it be fulfilled now, and m is the kid in which it is
pub record FulfilsIn (closure : List CoreForm) (full : List ℕ) (e : ℕ) (n m : NodeForm) : Type 0 where
  pub turn : chosen closure n.todo ≡ e
  pub can : IsTrue (fulfils (node_rule closure n))
  pub first : slice_get (kids closure full n) 0 ≡ Some m

-- n does not carry the until e, or fulfils it in m
abbrev pub Settles : List CoreForm → List ℕ → ℕ → NodeForm → NodeForm → Type 0
Settles closure full e n m = ¬ (IsTrue (carries e n)) ⊎ FulfilsIn closure full e n m

-- stem and loop make a walk from the root from kid to kid, on whose loop each until is settled
pub record IsClosedWalk (sizes : List ℕ) (cores : List CoreForm) (stem loop : List NodeForm) : Type 0 where
  pub turns : 0 < length loop
  pub starts : node_at stem loop 0 ≡ root_of (closure_of cores) (full_of sizes) cores
  pub goes : (k : ℕ) → k < length stem + length loop → Contains (kids (closure_of cores) (full_of sizes) (node_at stem loop k)) (node_at stem loop (k + 1))
  pub settles : (e : ℕ) → IsTrue (is_until (formula_at (closure_of cores) e))
      → (k : ℕ) × (length stem ≤ k) × (k < length stem + length loop) × Settles (closure_of cores) (full_of sizes) e (node_at stem loop k) (node_at stem loop (k + 1))

-- the least index of a set
abbrev pub least_index : ℕ → ℕ
least_index set = trailing_zeros w64 set

-- whether a list has no number; a node with no formula to do steps
abbrev pub is_empty : List ℕ → Bool
is_empty [] = true
is_empty (x ∷ xs) = false

-- a state for each node that steps, with the least index that is left to each variable
abbrev pub states : List NodeForm → List (List ℕ)
states [] = []
states (n ∷ ns) = if is_empty n.todo then map least_index n.now ∷ states ns else states ns

-- a prefix and a loop of states that fit the sizes, whose trace meets the cores
pub record IsAnswer (sizes : List ℕ) (cores : List CoreForm) (prefix cycle : List (List ℕ)) : Type 0 where
  pub turns : 0 < length cycle
  pub prefix_fits : All (ValuesFit sizes) prefix
  pub cycle_fits : All (ValuesFit sizes) cycle
  pub meets : MeetsAll (from_lists prefix cycle) cores
