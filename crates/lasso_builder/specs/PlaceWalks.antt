-- Walks of places through a set of living places, and what is served on the way.
use Rattle.std.specs.Prelude.{◌≡◌, ℕ, zero, suc, ◌+◌, ◌-◌, ◌<◌, ◌≤◌, ◌⊎◌, Bool, true, false, List, [], ◌∷◌, length, get_or, take, drop}
use Rattle.tableau_rules.specs.declared.edges.Edges.{Edges}
use Rattle.tableau_rules.specs.Links.{Among, IsHead, kids_at}
use Rattle.tableau_rules.specs.Levels.{Alive}

-- a walk from the root, from kid to kid, through places that are alive
pub record IsWalk (links : List Edges) (alive : List Bool) (walk : List ℕ) : Type 0 where
  pub some : 0 < length walk
  pub starts : get_or walk 0 0 ≡ 0
  pub living : (k : ℕ) → k < length walk → (get_or walk k 0 < length links) × Alive alive (get_or walk k 0)
  pub goes : (k : ℕ) → k + 1 < length walk → Among (get_or walk (k + 1) 0) (kids_at links (get_or walk k 0))

-- the walk goes on from another one
pub record Extends (old new : List ℕ) : Type 0 where
  pub longer : length old ≤ length new
  pub same : (k : ℕ) → k < length old → get_or new k 0 ≡ get_or old k 0

-- what is fulfilling is fulfilled from one place of the walk to the next
pub record FulfilsOn (links : List Edges) (fulfilling : ℕ → Bool) (walk : List ℕ) (at : ℕ) : Type 0 where
  pub more : at + 1 < length walk
  pub can : fulfilling (get_or walk at 0) ≡ true
  pub first : IsHead (get_or walk (at + 1) 0) (kids_at links (get_or walk at 0))

-- from some place on, the until is not carried at one, or it is fulfilled
pub record IsServed (links : List Edges) (carrying fulfilling : ℕ → ℕ → Bool) (e : ℕ) (walk : List ℕ) (from : ℕ) : Type 0 where
  pub at : ℕ
  pub after : from ≤ at
  pub inside : at < length walk
  pub how : (carrying e (get_or walk at 0) ≡ false) ⊎ FulfilsOn links (fulfilling e) walk at

-- a living place has a living kid
abbrev pub GoesOn : List Edges → List Bool → Type 0
GoesOn links alive = (k : ℕ) → k < length links → Alive alive k → (p : ℕ) × Among p (kids_at links k) × Alive alive p

-- the walk goes on at least one step
pub record Steps (links : List Edges) (alive : List Bool) (old new : List ℕ) : Type 0 where
  pub walk : IsWalk links alive new
  pub extends : Extends old new
  pub more : length old < length new

-- the walk goes on from its last place to a fulfilment
pub record Descends (links : List Edges) (fulfilling : ℕ → Bool) (alive : List Bool) (old new : List ℕ) : Type 0 where
  pub walk : IsWalk links alive new
  pub extends : Extends old new
  pub at : ℕ
  pub after : length old - 1 ≤ at
  pub fulfilled : FulfilsOn links fulfilling new at

-- the walk goes on from its last place until the until is served
pub record Leg (links : List Edges) (carrying fulfilling : ℕ → ℕ → Bool) (e : ℕ) (alive : List Bool) (old new : List ℕ) : Type 0 where
  pub walk : IsWalk links alive new
  pub extends : Extends old new
  pub served : IsServed links carrying fulfilling e new (length old - 1)

-- the walk goes on at least one step, and the first of the untils are served
pub record Lap (links : List Edges) (carrying fulfilling : ℕ → ℕ → Bool) (untils : ℕ) (alive : List Bool) (old new : List ℕ) : Type 0 where
  pub walk : IsWalk links alive new
  pub extends : Extends old new
  pub more : length old < length new
  pub served : (e : ℕ) → e < untils → IsServed links carrying fulfilling e new (length old - 1)

-- the last place of the walk is that at `start`, and in between each until is served
pub record IsClosed (links : List Edges) (carrying fulfilling : ℕ → ℕ → Bool) (untils : ℕ) (alive : List Bool) (walk : List ℕ) (start : ℕ) : Type 0 where
  pub is : IsWalk links alive walk
  pub inside : start + 1 < length walk
  pub back : get_or walk start 0 ≡ get_or walk (length walk - 1) 0
  pub served : (e : ℕ) → e < untils → IsServed links carrying fulfilling e walk start

-- at each place at which a lap began there stands how long the walk was then, else 0; after each lap each until is served
pub record IsLapped (links : List Edges) (carrying fulfilling : ℕ → ℕ → Bool) (untils : ℕ) (alive : List Bool) (begun walk : List ℕ) : Type 0 where
  pub is : IsWalk links alive walk
  pub size : length begun ≡ length links
  pub laps : (p : ℕ) → p < length links → 0 < get_or begun p 0
      → (get_or begun p 0 < length walk) × (get_or walk (get_or begun p 0 - 1) 0 ≡ p)
      × ((e : ℕ) → e < untils → IsServed links carrying fulfilling e walk (get_or begun p 0 - 1))

-- at how many places no lap began
abbrev pub unbegun : List ℕ → ℕ
unbegun [] = 0
unbegun (zero ∷ begun) = suc (unbegun begun)
unbegun (suc x ∷ begun) = unbegun begun

-- the places before the loop, where a walk is cut whose last place stands at `start` too
abbrev pub stem_of : List ℕ → ℕ → List ℕ
stem_of walk start = take start walk

-- the places of the loop, without the last one of the walk, which is the first of the loop again
abbrev pub loop_of : List ℕ → ℕ → List ℕ
loop_of walk start = take (length walk - 1 - start) (drop start walk)
