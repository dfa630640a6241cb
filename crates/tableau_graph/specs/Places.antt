-- Nodes that an exploration has met, by their places.
use Rattle.std.specs.Prelude.{◌≡◌, ℕ, ◌<◌, ◌≤◌, ◌⊎◌, List, [], ◌∷◌, ◌++◌, length, slice_get, Option, Some, None, Contains}
use Rattle.std.specs.List.{AllZip}
use Rattle.smallvec.specs.SmallVec.{SmallVec}
use Rattle.state_space.specs.Members.{full_of}
use Rattle.bound_unfolding.specs.CoreForm.{CoreForm}
use Rattle.formula_table.specs.Closures.{closure_of}
use Rattle.tableau_rules.specs.Nodes.{NodeForm, kids, root_of}
use Rattle.tableau_rules.specs.Graphs.{AreReached, IsLarger}

-- the kids of a node, by sizes and cores
abbrev pub kids_in : List ℕ → List CoreForm → NodeForm → List NodeForm
kids_in sizes cores n = kids (closure_of cores) (full_of sizes) n

-- nodes that are reached, none of them twice, and no more than the budget
pub record AreWithin (sizes : List ℕ) (cores : List CoreForm) (budget : ℕ) (nodes : List NodeForm) : Type 0 where
  pub are : AreReached sizes cores nodes
  pub few : length nodes ≤ budget

-- each node keeps its place
pub record Keeps (old new : List NodeForm) : Type 0 where
  pub keeps : (k : ℕ) (n : NodeForm) → slice_get old k ≡ Some n → slice_get new k ≡ Some n

-- the places have exactly these nodes, in order
abbrev pub PlacesHave : List NodeForm → List ℕ → List NodeForm → Type 0
PlacesHave nodes places ns = AllZip (λ place n. slice_get nodes place ≡ Some n) places ns

-- the node is there already and nothing changes, or it comes at the end
abbrev pub IsPut : List NodeForm → List NodeForm → NodeForm → Type 0
IsPut old new n = (new ≡ old) ⊎ ((new ≡ old ++ n ∷ []) × ¬ (Contains old n))

-- the place of a node that is put, where the nodes are within the budget
abbrev pub IsPlaced : ℕ → List NodeForm → List NodeForm → NodeForm → Option ℕ → Type 0
IsPlaced budget old new n None = IsPut old new n × (budget < length new)
IsPlaced budget old new n (Some place) = IsPut old new n × (length new ≤ budget) × (slice_get new place ≡ Some n)

-- the place of the kid of this number, from 0, of the node at a place
pub record HasKid (sizes : List ℕ) (cores : List CoreForm) (budget : ℕ) (old new : List NodeForm) (at which place : ℕ) : Type 0 where
  pub within : AreWithin sizes cores budget new
  pub keeps : Keeps old new
  pub kid : (n : NodeForm) → slice_get old at ≡ Some n → (m : NodeForm) × (slice_get (kids_in sizes cores n) which ≡ Some m) × (slice_get new place ≡ Some m)

-- where a place is answered it is that of the kid, and where none is, the tableau is over the budget
abbrev pub IsKidPlace : List ℕ → List CoreForm → ℕ → List NodeForm → List NodeForm → ℕ → ℕ → Option ℕ → Type 0
IsKidPlace sizes cores budget old new at which None = IsLarger sizes cores budget
IsKidPlace sizes cores budget old new at which (Some place) = HasKid sizes cores budget old new at which place

-- the places of all kids of the node at a place
pub record HasKids (sizes : List ℕ) (cores : List CoreForm) (budget : ℕ) (old new : List NodeForm) (at : ℕ) (places : List ℕ) : Type 0 where
  pub within : AreWithin sizes cores budget new
  pub keeps : Keeps old new
  pub kids : (n : NodeForm) → slice_get old at ≡ Some n → PlacesHave new places (kids_in sizes cores n)

-- where a row is answered it has the places of all kids, and where none is, the tableau is over the budget
abbrev pub IsRow : List ℕ → List CoreForm → ℕ → List NodeForm → List NodeForm → ℕ → Option (SmallVec ℕ) → Type 0
IsRow sizes cores budget old new at None = IsLarger sizes cores budget
IsRow sizes cores budget old new at (Some row) = HasKids sizes cores budget old new at row.items

-- an exploration so far: the rows are those of the first nodes
pub record AreRows (sizes : List ℕ) (cores : List CoreForm) (budget : ℕ) (nodes : List NodeForm) (rows : List (List ℕ)) : Type 0 where
  pub root : slice_get nodes 0 ≡ Some (root_of (closure_of cores) (full_of sizes) cores)
  pub within : AreWithin sizes cores budget nodes
  pub few : length rows ≤ length nodes
  pub kids : (k : ℕ) (row : List ℕ) (n : NodeForm) → slice_get rows k ≡ Some row → slice_get nodes k ≡ Some n → PlacesHave nodes row (kids_in sizes cores n)
