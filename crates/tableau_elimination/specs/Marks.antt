-- Marks of the places of a graph, while more and more places go: when each went, and why.
use Rattle.std.specs.Prelude.{get_or, ◌≡◌, ℕ, ◌+◌, ◌-◌, ◌<◌, ◌≤◌, ◌^◌, ◌⊎◌, List, [], ◌∷◌, length, Bool, true, false, ◌&&◌, nat_lt, nat_eq, cond, not}
use Rattle.formula_table.specs.Closures.{closure_of}
use Rattle.tableau_rules.specs.declared.edges.Edges.{Edges}
use Rattle.tableau_rules.specs.QueryView.{cores_in}
use Rattle.tableau_rules.specs.GraphView.{graph_of}
use Rattle.tableau_rules.specs.Links.{Among, IsHead, kids_at, carries_at, fulfils_at, InRange, PlaceReached}
use Rattle.tableau_rules.specs.Levels.{Alive, alive_at, ComesTo, IsSettled, PlacesSurvive}
use Rattle.tableau_elimination.specs.declared.linked_graph.LinkedGraph.{LinkedGraph}
use Rattle.tableau_elimination.specs.declared.cause.Cause.{Cause}
use Rattle.tableau_elimination.specs.declared.cause.Cause.TheVariants.{Dead, Wait}

-- which untils of the query are carried at which places of the graph
abbrev pub carrying_in : LinkedGraph → ℕ → ℕ → Bool
carrying_in linked_graph = carries_at (closure_of (cores_in linked_graph.query.now)) (graph_of linked_graph.graph.now)

-- what elimination needs of a graph: kids are places, each place is reached from the first, and an until that a place carries
-- goes on into each kid but the one that fulfils it
pub record IsConnected (links : List Edges) (carrying fulfilling : ℕ → ℕ → Bool) : Type 0 where
  pub some : 0 < length links
  pub in_range : InRange links
  pub reached : (k : ℕ) → k < length links → PlaceReached links k
  pub goes_on : (e k p : ℕ) → k < length links → carrying e k ≡ true → Among p (kids_at links k)
      → (carrying e p ≡ true) ⊎ ((fulfilling e k ≡ true) × IsHead p (kids_at links k))

-- a graph of fewer than 2^32 places, connected by its links, of which each node has one
pub record IsReady (linked_graph : LinkedGraph) : Type 0 where
  pub few : length linked_graph.links.now < 2 ^ 32
  pub size : length (graph_of linked_graph.graph.now) ≡ length linked_graph.links.now
  pub connected : IsConnected linked_graph.links.now (carrying_in linked_graph) (fulfils_at linked_graph.links.now)

-- why the place is gone, if it is: a mark without meaning stands at a place that is alive
abbrev pub cause_at : List Cause → ℕ → Cause
cause_at causes k = get_or causes k Dead

-- the place is gone
abbrev pub Gone : List Bool → ℕ → Type 0
Gone alive k = get_or alive k false ≡ false

-- the place has a kid
abbrev pub HasKid : List Edges → ℕ → Type 0
HasKid links k = (p : ℕ) × Among p (kids_at links k)

-- the mark of a place is right: all its kids went before it, of which there may be none; or each went before it or waits with it for the until e,
-- which the place carries, and a kid in which e is fulfilled went before it, since it may carry e again
abbrev pub IsRight : List Edges → (ℕ → ℕ → Bool) → (ℕ → ℕ → Bool) → List ℕ → List Cause → ℕ → Cause → Type 0
IsRight links carrying fulfilling ranks causes k Dead = (p : ℕ) → Among p (kids_at links k) → get_or ranks p 0 < get_or ranks k 0
IsRight links carrying fulfilling ranks causes k (Wait e) =
    (carrying e k ≡ true) × HasKid links k
    × ((p : ℕ) → Among p (kids_at links k) → (get_or ranks p 0 < get_or ranks k 0) ⊎ ((get_or ranks p 0 ≡ get_or ranks k 0) × (cause_at causes p ≡ Wait e)))
    × (fulfilling e k ≡ true → (p : ℕ) → IsHead p (kids_at links k) → get_or ranks p 0 < get_or ranks k 0)

-- what a place needs that waits for the until, besides what is said of all its kids
pub record IsWaiting (links : List Edges) (carrying fulfilling : ℕ → ℕ → Bool) (ranks : List ℕ) (e k : ℕ) : Type 0 where
  pub carries : carrying e k ≡ true
  pub has_kid : HasKid links k
  pub later : fulfilling e k ≡ true → (p : ℕ) → IsHead p (kids_at links k) → get_or ranks p 0 < get_or ranks k 0

-- whether both causes are that of waiting for one until
abbrev pub are_joined : Cause → Cause → Bool
are_joined (Wait d) (Wait e) = nat_eq d e
are_joined _ _ = false

-- whether the place went no earlier than the rank says
abbrev pub is_late : List ℕ → ℕ → ℕ → Bool
is_late ranks rank p = not (nat_lt (get_or ranks p 0) rank)

-- whether it went neither earlier nor for the same until at the same time
abbrev pub is_apart : List ℕ → List Cause → ℕ → Cause → ℕ → Bool
is_apart ranks causes rank cause p = is_late ranks rank p && not (nat_eq (get_or ranks p 0) rank && are_joined cause (cause_at causes p))

-- all places are gone, each for a right cause
pub record AreRight (links : List Edges) (carrying fulfilling : ℕ → ℕ → Bool) (ranks : List ℕ) (causes : List Cause) : Type 0 where
  pub ranked : length ranks ≡ length links
  pub caused : length causes ≡ length links
  pub right : (k : ℕ) → k < length links → IsRight links carrying fulfilling ranks causes k (cause_at causes k)

-- how many places are alive
abbrev pub living : List Bool → ℕ
living [] = 0
living (x ∷ xs) = cond x 1 0 + living xs

-- the places that are gone have right marks, with ranks that rise as fewer places are left
pub record AreMarked (links : List Edges) (carrying fulfilling : ℕ → ℕ → Bool) (alive : List Bool) (ranks : List ℕ) (causes : List Cause) (left : ℕ) : Type 0 where
  pub tested : length alive ≡ length links
  pub ranked : length ranks ≡ length links
  pub caused : length causes ≡ length links
  pub rest : living alive ≡ left
  pub below : (k : ℕ) → k < length links → Gone alive k → get_or ranks k 0 + left < length links
  pub shut : (k : ℕ) → k < length links → Gone alive k → (p : ℕ) → Among p (kids_at links k) → Gone alive p
  pub right : (k : ℕ) → k < length links → Gone alive k → IsRight links carrying fulfilling ranks causes k (cause_at causes k)

-- each living place has a kid
abbrev pub Leafless : List Edges → List Bool → Type 0
Leafless links alive = (k : ℕ) → k < length links → Alive alive k → HasKid links k

-- whether the place is alive without a level, and carries the until
abbrev pub waits : (ℕ → Bool) → List Bool → List ℕ → ℕ → Bool
waits carried alive levels k = alive_at alive k && (not (nat_lt (get_or levels k 0) (length levels)) && carried k)

-- the waiting places below the bound are gone, all with one rank
pub record AreKilled (carried : ℕ → Bool) (e : ℕ) (levels : List ℕ) (old alive : List Bool) (old_ranks ranks : List ℕ) (old_causes causes : List Cause) (before left bound : ℕ) : Type 0 where
  pub tested : length alive ≡ length old
  pub ranked : length ranks ≡ length old_ranks
  pub caused : length causes ≡ length old_causes
  pub rest : living alive ≡ left
  pub less : left ≤ before
  pub alive_is : (k : ℕ) → alive_at alive k ≡ cond (nat_lt k bound && waits carried old levels k) false (alive_at old k)
  pub rank_is : (k : ℕ) → get_or ranks k 0 ≡ cond (nat_lt k bound && waits carried old levels k) (length levels - before) (get_or old_ranks k 0)
  pub cause_is : (k : ℕ) → cause_at causes k ≡ cond (nat_lt k bound && waits carried old levels k) (Wait e) (cause_at old_causes k)
  pub some : (k : ℕ) → k < bound → waits carried old levels k ≡ true → left < before
  pub same : left ≡ before → alive ≡ old

-- after the places from the bound on were cleared
pub record AreCleared (links : List Edges) (carrying fulfilling : ℕ → ℕ → Bool) (old alive : List Bool) (ranks : List ℕ) (causes : List Cause) (before left bound : ℕ) : Type 0 where
  pub marked : AreMarked links carrying fulfilling alive ranks causes left
  pub less : left ≤ before
  pub same : left ≡ before → alive ≡ old
  pub goes : left ≡ before → (k : ℕ) → bound ≤ k → k < length links → Alive alive k → (p : ℕ) × Among p (kids_at links k) × Alive alive p
  pub leafless : (k : ℕ) → bound ≤ k → k < length links → Alive alive k → HasKid links k

-- after the places that wait for the until are gone
pub record IsWaitedFor (links : List Edges) (carrying fulfilling : ℕ → ℕ → Bool) (e : ℕ) (old alive : List Bool) (ranks : List ℕ) (causes : List Cause) (before left : ℕ) : Type 0 where
  pub marked : AreMarked links carrying fulfilling alive ranks causes left
  pub leafless : Leafless links alive
  pub less : left ≤ before
  pub same : left ≡ before → alive ≡ old
  pub fair : left ≡ before → (k : ℕ) → k < length links → Alive alive k → carrying e k ≡ true → ComesTo links (fulfilling e) alive k

-- after a round, which settles all where it kills none
pub record IsRound (links : List Edges) (carrying fulfilling : ℕ → ℕ → Bool) (alive : List Bool) (ranks : List ℕ) (causes : List Cause) (before left : ℕ) : Type 0 where
  pub marked : AreMarked links carrying fulfilling alive ranks causes left
  pub less : left ≤ before
  pub settled : left ≡ before → IsSettled links carrying fulfilling alive

-- after the last round, whether or not the first place stays
abbrev pub HasEnded : Bool → List Edges → (ℕ → ℕ → Bool) → (ℕ → ℕ → Bool) → List Bool → List ℕ → List Cause → Type 0
HasEnded true links carrying fulfilling alive ranks causes = PlacesSurvive links carrying fulfilling alive
HasEnded false links carrying fulfilling alive ranks causes = AreRight links carrying fulfilling ranks causes
