-- Which nodes the tableau of a query has, how many they are, and graphs of all of them.
use Rattle.std.specs.Prelude.{◌≡◌, ◌≢◌, ℕ, ◌<◌, ◌≤◌, List, length, map, slice_get, Some, All, AllPairs, Contains}
use Rattle.std.specs.List.{AllZip}
use Rattle.state_space.specs.Members.{full_of}
use Rattle.bound_unfolding.specs.CoreForm.{CoreForm}
use Rattle.formula_table.specs.Closures.{closure_of}
use Rattle.tableau_rules.specs.Nodes.{NodeForm, kids, root_of}

-- the root of the query, or a kid of a node that is reached
pub data IsReached (sizes : List ℕ) (cores : List CoreForm) : NodeForm → Type 0 where
  root : IsReached sizes cores (root_of (closure_of cores) (full_of sizes) cores)
  kid : (n m : NodeForm) → IsReached sizes cores n → Contains (kids (closure_of cores) (full_of sizes) n) m → IsReached sizes cores m

-- nodes that are reached, none of them twice
pub record AreReached (sizes : List ℕ) (cores : List CoreForm) (nodes : List NodeForm) : Type 0 where
  pub distinct : AllPairs (λ n m. n ≢ m) nodes
  pub reached : All (IsReached sizes cores) nodes

-- the size of a query: these many nodes are reached, and no other
pub record HasSize (sizes : List ℕ) (cores : List CoreForm) (size : ℕ) : Type 0 where
  pub nodes : List NodeForm
  pub count : length nodes ≡ size
  pub are : AreReached sizes cores nodes
  pub all : (n : NodeForm) → IsReached sizes cores n → Contains nodes n

-- the size is at most the budget
abbrev pub IsWithin : List ℕ → List CoreForm → ℕ → Type 0
IsWithin sizes cores budget = (size : ℕ) × HasSize sizes cores size × (size ≤ budget)

-- the size is over the budget, shown by more nodes than that
pub record IsLarger (sizes : List ℕ) (cores : List CoreForm) (budget : ℕ) : Type 0 where
  pub nodes : List NodeForm
  pub more : budget < length nodes
  pub are : AreReached sizes cores nodes

-- a node, and the places of its kids
pub record GraphNodeForm : Type 0 where
  pub node : NodeForm
  pub kids : List ℕ

-- the nodes of a graph, by their places from 0
abbrev pub nodes_in : List GraphNodeForm → List NodeForm
nodes_in graph = map (λ g. g.node) graph

-- the places hold exactly these nodes, in order
abbrev pub PlacesHold : List GraphNodeForm → List ℕ → List NodeForm → Type 0
PlacesHold graph places nodes = AllZip (λ place n. slice_get (nodes_in graph) place ≡ Some n) places nodes

-- each node of the query that is reached, once, the root first, with its kids in the order of its rule
pub record IsWhole (sizes : List ℕ) (cores : List CoreForm) (graph : List GraphNodeForm) : Type 0 where
  pub root : slice_get (nodes_in graph) 0 ≡ Some (root_of (closure_of cores) (full_of sizes) cores)
  pub are : AreReached sizes cores (nodes_in graph)
  pub kids : (k : ℕ) (g : GraphNodeForm) → slice_get graph k ≡ Some g → PlacesHold graph g.kids (kids (closure_of cores) (full_of sizes) g.node)
