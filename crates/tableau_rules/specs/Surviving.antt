-- Sets of nodes of a graph from which a lasso can be built.
use Rattle.std.specs.Prelude.{◌≡◌, ℕ, Bool, true, not, List, length, slice_get, Some, IsTrue, Contains}
use Rattle.bound_unfolding.specs.CoreForm.{CoreForm}
use Rattle.formula_table.specs.Closures.{formula_at, closure_of}
use Rattle.tableau_rules.specs.Rules.{is_clash, fulfils}
use Rattle.tableau_rules.specs.Nodes.{carries, chosen, node_rule}
use Rattle.tableau_rules.specs.Certificates.{is_until}
use Rattle.tableau_rules.specs.Graphs.{GraphNodeForm}

-- the place, counted from 0, is in the set
abbrev pub Stays : List Bool → ℕ → Type 0
Stays stays place = slice_get stays place ≡ Some true

-- some path in the set leads from the place to a node whose turn is the until e, where the kid in which e is fulfilled is in the set too
pub data LeadsToFulfilment (closure : List CoreForm) (graph : List GraphNodeForm) (stays : List Bool) (e : ℕ) : ℕ → Type 0 where
  here : (place first : ℕ) (g : GraphNodeForm) → slice_get graph place ≡ Some g → Stays stays place
      → chosen closure g.node.todo ≡ e → IsTrue (fulfils (node_rule closure g.node)) → slice_get g.kids 0 ≡ Some first → Stays stays first
      → LeadsToFulfilment closure graph stays e place
  later : (place next : ℕ) (g : GraphNodeForm) → slice_get graph place ≡ Some g → Stays stays place → Contains g.kids next
      → LeadsToFulfilment closure graph stays e next → LeadsToFulfilment closure graph stays e place

-- the root is in the set; no node of it clashes, each has a kid in it, and from each every until that it carries can be fulfilled in it
pub record Survives (cores : List CoreForm) (graph : List GraphNodeForm) (stays : List Bool) : Type 0 where
  pub size : length stays ≡ length graph
  pub root : Stays stays 0
  pub no_clash : (k : ℕ) (g : GraphNodeForm) → slice_get graph k ≡ Some g → Stays stays k → IsTrue (not (is_clash (node_rule (closure_of cores) g.node)))
  pub goes_on : (k : ℕ) (g : GraphNodeForm) → slice_get graph k ≡ Some g → Stays stays k → (p : ℕ) × Contains g.kids p × Stays stays p
  pub fair : (k : ℕ) (g : GraphNodeForm) → slice_get graph k ≡ Some g → Stays stays k
      → (e : ℕ) → IsTrue (is_until (formula_at (closure_of cores) e)) → IsTrue (carries e g.node) → LeadsToFulfilment (closure_of cores) graph stays e k
