-- Levels of places towards the fulfilment of an until, inside a set of places that are alive.
use Rattle.std.specs.Prelude.{◌≡◌, ℕ, ◌+◌, ◌<◌, ◌≤◌, ◌⊎◌, Bool, true, false, ◌&&◌, ◌||◌, nat_lt, List, [], ◌∷◌, length, cond, get_or}
use Rattle.tableau_rules.specs.declared.edges.Edges.{Edges}
use Rattle.tableau_rules.specs.Links.{Among, IsHead, kids_at}

-- whether there is a first place that passes
abbrev pub head_is : (ℕ → Bool) → List ℕ → Bool
head_is test [] = false
head_is test (x ∷ xs) = test x

-- whether some one of the places passes
abbrev pub some_is : (ℕ → Bool) → List ℕ → Bool
some_is test [] = false
some_is test (x ∷ []) = test x
some_is test (x ∷ y ∷ ys) = test x || some_is test (y ∷ ys)

-- whether the place is alive; none is past the end
abbrev pub alive_at : List Bool → ℕ → Bool
alive_at alive k = get_or alive k false

-- the place is alive
abbrev pub Alive : List Bool → ℕ → Type 0
Alive alive k = alive_at alive k ≡ true

-- alive, with a level below the bound
abbrev pub levelled_at : List Bool → List ℕ → ℕ → ℕ → Bool
levelled_at alive levels bound k = alive_at alive k && nat_lt (get_or levels k 0) bound

-- the place is alive and fulfils in a kid that is alive, or some kid that is alive has a level
abbrev pub can_go : List Edges → (ℕ → Bool) → List Bool → List ℕ → ℕ → Bool
can_go links fulfilling alive levels k =
    alive_at alive k && ((fulfilling k && head_is (alive_at alive) (kids_at links k)) || some_is (levelled_at alive levels (length links)) (kids_at links k))

-- the until is fulfilled in the first kid of the place, and that kid is alive
abbrev pub Fulfils : List Edges → (ℕ → Bool) → List Bool → ℕ → Type 0
Fulfils links fulfilling alive k = (fulfilling k ≡ true) × ((p : ℕ) × IsHead p (kids_at links k) × Alive alive p)

-- the living place fulfils in a living kid, or has a living kid with a lower level
abbrev pub Way : List Edges → (ℕ → Bool) → List Bool → List ℕ → ℕ → Type 0
Way links fulfilling alive levels k =
    Alive alive k × (Fulfils links fulfilling alive k ⊎ ((p : ℕ) × Among p (kids_at links k) × Alive alive p × (get_or levels p 0 < get_or levels k 0)))

-- how many places have no level yet
abbrev pub free : ℕ → List ℕ → ℕ
free count [] = 0
free count (x ∷ xs) = cond (nat_lt x count) 0 1 + free count xs

-- levels so far, where these many places are without: a place has a level where its number is below that of all places
pub record Levelling (links : List Edges) (fulfilling : ℕ → Bool) (alive : List Bool) (levels : List ℕ) (left : ℕ) : Type 0 where
  pub size : length levels ≡ length links
  pub rest : free (length links) levels ≡ left
  pub below : (k : ℕ) → k < length links → get_or levels k 0 < length links → get_or levels k 0 + left < length links
  pub way : (k : ℕ) → k < length links → get_or levels k 0 < length links → Way links fulfilling alive levels k

-- each place from which the until can be fulfilled has a level, and there is a way down from each level
pub record HasLevels (links : List Edges) (fulfilling : ℕ → Bool) (alive : List Bool) (levels : List ℕ) : Type 0 where
  pub size : length levels ≡ length links
  pub way : (k : ℕ) → k < length links → get_or levels k 0 < length links → Way links fulfilling alive levels k
  pub whole : (k : ℕ) → k < length links → length links ≤ get_or levels k 0 → can_go links fulfilling alive levels k ≡ false

-- a path among living places to one that fulfils in a living kid
pub data ComesTo (links : List Edges) (fulfilling : ℕ → Bool) (alive : List Bool) : ℕ → Type 0 where
  here : (k p : ℕ) → Alive alive k → fulfilling k ≡ true → IsHead p (kids_at links k) → Alive alive p → ComesTo links fulfilling alive k
  later : (k p : ℕ) → Alive alive k → Among p (kids_at links k) → ComesTo links fulfilling alive p → ComesTo links fulfilling alive k

-- each living place has a living kid, and comes to a fulfilment of each until that it carries
pub record IsSettled (links : List Edges) (carrying fulfilling : ℕ → ℕ → Bool) (alive : List Bool) : Type 0 where
  pub goes : (k : ℕ) → k < length links → Alive alive k → (p : ℕ) × Among p (kids_at links k) × Alive alive p
  pub fair : (e k : ℕ) → k < length links → Alive alive k → carrying e k ≡ true → ComesTo links (fulfilling e) alive k

-- the places that are left once the rest is gone: a settled set, with the root at place 0
pub record PlacesSurvive (links : List Edges) (carrying fulfilling : ℕ → ℕ → Bool) (alive : List Bool) : Type 0 where
  pub size : length alive ≡ length links
  pub root : Alive alive 0
  pub settled : IsSettled links carrying fulfilling alive
