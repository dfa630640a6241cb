-- Certificates: nodes of a tableau, each eliminated for a reason, the first of them the root of a query.
use Rattle.std.specs.Prelude.{◌≡◌, ℕ, ◌<◌, ◌^◌, ◌⊎◌, Bool, true, false, List, [], ◌∷◌, length, slice_index, slice_get, Some, IsTrue, not, All}
use Rattle.std.specs.List.{AllZip}
use Rattle.std.specs.List.Sorted.{IsStrictlyIncreasing}
use Rattle.bound_unfolding.specs.CoreForm.{CoreForm, core_until}
use Rattle.formula_table.specs.Closures.{formula_at, closure_of}
use Rattle.tableau_rules.specs.Rules.{is_clash, fulfils}
use Rattle.state_space.specs.Members.{full_of}
use Rattle.tableau_rules.specs.Nodes.{NodeForm, carries, chosen, node_rule, kids, root_of}

-- the node's own rule, its kids, or the until e, which is put off for ever
pub data ReasonForm : Type 0 where
  clash : ReasonForm
  dead : ReasonForm
  wait : (e : ℕ) → ReasonForm

-- a node, the places of its kids, and when and why it is eliminated
pub record CertNodeForm : Type 0 where
  pub node : NodeForm
  pub kids : List ℕ
  pub rank : ℕ
  pub reason : ReasonForm

-- the place holds this node
abbrev pub HoldsNode : List CertNodeForm → ℕ → NodeForm → Type 0
HoldsNode cert place n = (c : CertNodeForm) × (slice_get cert place ≡ Some c) × (c.node ≡ n)

-- the places hold exactly these nodes, in order
abbrev pub HoldsKids : List CertNodeForm → List ℕ → List NodeForm → Type 0
HoldsKids cert places nodes = AllZip (HoldsNode cert) places nodes

-- what is at each of the places has P
abbrev pub EachKid : List CertNodeForm → (CertNodeForm → Type 0) → List ℕ → Type 0
EachKid cert P places = All (λ p. (d : CertNodeForm) → slice_get cert p ≡ Some d → P d) places

-- what is at the first of the places has P
abbrev pub FirstKid : List CertNodeForm → (CertNodeForm → Type 0) → List ℕ → Type 0
FirstKid cert P [] = Unit {0}
FirstKid cert P (p ∷ places) = (d : CertNodeForm) → slice_get cert p ≡ Some d → P d

-- the one kind of formula whose fulfilment can be put off for ever
abbrev pub is_until : CoreForm → Bool
is_until (core_until a b) = true
is_until _ = false

-- the node does not clash, and each kid was eliminated before it
pub record IsDead (closure : List CoreForm) (cert : List CertNodeForm) (c : CertNodeForm) : Type 0 where
  pub goes_on : IsTrue (not (is_clash (node_rule closure c.node)))
  pub lower : EachKid cert (λ d. d.rank < c.rank) c.kids

-- the node carries the until e, each kid was eliminated before it or waits with it, and the kid in which e is fulfilled was before it:
-- that kid may ask for e again at the next position, and if it might wait too, `always next eventually p` would be eliminated
pub record Waits (closure : List CoreForm) (cert : List CertNodeForm) (c : CertNodeForm) (e : ℕ) : Type 0 where
  pub until : IsTrue (is_until (formula_at closure e))
  pub carried : IsTrue (carries e c.node)
  pub goes_on : IsTrue (not (is_clash (node_rule closure c.node)))
  pub stays : EachKid cert (λ d. (d.rank < c.rank) ⊎ ((d.rank ≡ c.rank) × (d.reason ≡ wait e))) c.kids
  pub fulfilled : chosen closure c.node.todo ≡ e → IsTrue (fulfils (node_rule closure c.node)) → FirstKid cert (λ d. d.rank < c.rank) c.kids

-- the node is eliminated for this reason
abbrev pub IsEliminated : List CoreForm → List CertNodeForm → CertNodeForm → ReasonForm → Type 0
IsEliminated closure cert c clash = IsTrue (is_clash (node_rule closure c.node))
IsEliminated closure cert c dead = IsDead closure cert c
IsEliminated closure cert c (wait e) = Waits closure cert c e

-- formulas are numbers of the closure, ascending, and each variable has a set of its indexes
pub record IsOfQuery (sizes : List ℕ) (closure : List CoreForm) (n : NodeForm) : Type 0 where
  pub todo : IsStrictlyIncreasing n.todo
  pub todo_below : All (λ f. f < length closure) n.todo
  pub next : IsStrictlyIncreasing n.next
  pub next_below : All (λ f. f < length closure) n.next
  pub variables : length n.now ≡ length sizes
  pub indexes : (x : ℕ) → x < length sizes → slice_index n.now x < 2 ^ slice_index sizes x

-- the certificate shows that no trace over variables of these sizes meets the cores
pub record IsValid (sizes : List ℕ) (cores : List CoreForm) (cert : List CertNodeForm) : Type 0 where
  pub root : HoldsNode cert 0 (root_of (closure_of cores) (full_of sizes) cores)
  pub shape : (k : ℕ) (c : CertNodeForm) → slice_get cert k ≡ Some c → IsOfQuery sizes (closure_of cores) c.node
  pub kids : (k : ℕ) (c : CertNodeForm) → slice_get cert k ≡ Some c → HoldsKids cert c.kids (kids (closure_of cores) (full_of sizes) c.node)
  pub reason : (k : ℕ) (c : CertNodeForm) → slice_get cert k ≡ Some c → IsEliminated (closure_of cores) cert c c.reason
