-- Graphs by places alone: where the kids of each node stand, and which until is fulfilled in the first of them.
use Rattle.std.specs.Prelude.{◌≡◌, ℕ, ◌<◌, ◌⊎◌, ◌↔◌, Bool, ◌&&◌, List, [], ◌∷◌, length, slice_get, slice_index_or, Option, None, Some, IsTrue}
use Rattle.std.specs.List.{AllByRecursion}
use Rattle.bound_unfolding.specs.CoreForm.{CoreForm}
use Rattle.formula_table.specs.Closures.{formula_at, closure_of}
use Rattle.tableau_rules.specs.declared.edges.Kids.{Kids}
use Rattle.tableau_rules.specs.declared.edges.Kids.TheVariants.{Leaf, One, Two}
use Rattle.tableau_rules.specs.declared.edges.Edges.{Edges}
use Rattle.tableau_rules.specs.declared.kind.RuleKind.{RuleKind}
use Rattle.tableau_rules.specs.declared.kind.RuleKind.TheVariants.{FulfilOnly, FulfilOrWait}
use Rattle.tableau_rules.specs.Words.{is_given}
use Rattle.tableau_rules.specs.Rules.{fulfils}
use Rattle.tableau_rules.specs.Nodes.{carries, chosen, node_rule}
use Rattle.tableau_rules.specs.Certificates.{is_until}
use Rattle.tableau_rules.specs.Walks.{no_node}
use Rattle.tableau_rules.specs.Graphs.{GraphNodeForm}

-- the place is one of the places
abbrev pub Among : ℕ → List ℕ → Type 0
Among k [] = ⊥
Among k (x ∷ xs) = (k ≡ x) ⊎ Among k xs

-- the place is the first of the places
abbrev pub IsHead : ℕ → List ℕ → Type 0
IsHead k [] = ⊥
IsHead k (x ∷ xs) = k ≡ x

-- ---- what a link says
-- the places of the kids, in order
abbrev pub kids_of : Kids → List ℕ
kids_of Leaf = []
kids_of (One a) = a ∷ []
kids_of (Two a b) = a ∷ b ∷ []

-- what a place past the end has: no kids, and nothing fulfilled
abbrev pub no_link : Edges
no_link = record { kids = Leaf; fulfils = None }

-- the places of the kids of the node at a place
abbrev pub kids_at : List Edges → ℕ → List ℕ
kids_at links k = kids_of (slice_index_or links k no_link).kids

-- whether the until e is fulfilled in the first kid of the node at the place
unfoldable pub fulfils_at : List Edges → ℕ → ℕ → Bool
fulfils_at links e k = is_given (slice_index_or links k no_link).fulfils e

-- whether the node at the place carries the until e
unfoldable pub carries_at : List CoreForm → List GraphNodeForm → ℕ → ℕ → Bool
carries_at closure graph e k = is_until (formula_at closure e) && carries e (slice_index_or graph k (record { node = no_node; kids = [] })).node

-- the until that is fulfilled in the first kid of a node whose rule is of this kind
abbrev pub until_fulfilled : RuleKind → Option ℕ
until_fulfilled (FulfilOnly e) = Some e
until_fulfilled (FulfilOrWait e) = Some e
until_fulfilled _ = None

-- the link is that of the node
pub record IsLinkOf (closure : List CoreForm) (g : GraphNodeForm) (link : Edges) : Type 0 where
  pub kids : kids_of link.kids ≡ g.kids
  pub fulfilled : (e : ℕ) → IsTrue (is_given link.fulfils e) ↔ ((chosen closure g.node.todo ≡ e) × IsTrue (fulfils (node_rule closure g.node)))

-- each kid is a place of the graph
abbrev pub InRange : List Edges → Type 0
InRange links = (k : ℕ) → k < length links → AllByRecursion (λ p. p < length links) (kids_at links k)

-- the links are those of the graph
pub record IsLinked (cores : List CoreForm) (graph : List GraphNodeForm) (links : List Edges) : Type 0 where
  pub size : length links ≡ length graph
  pub kids : (k : ℕ) (g : GraphNodeForm) → slice_get graph k ≡ Some g → kids_at links k ≡ g.kids
  pub fulfilled : (e k : ℕ) (g : GraphNodeForm) → slice_get graph k ≡ Some g
      → IsTrue (fulfils_at links e k) ↔ ((chosen (closure_of cores) g.node.todo ≡ e) × IsTrue (fulfils (node_rule (closure_of cores) g.node)))

-- the first place, or a kid of a place that is reached
pub data PlaceReached (links : List Edges) : ℕ → Type 0 where
  start : PlaceReached links 0
  more : (k p : ℕ) → PlaceReached links k → Among p (kids_at links k) → PlaceReached links p
