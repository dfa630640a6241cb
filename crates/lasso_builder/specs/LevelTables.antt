-- Levels of places for each formula of a query, and how a level is lowered.
use Rattle.std.specs.Prelude.{◌≡◌, ℕ, ◌<◌, ◌⊎◌, Bool, true, List, length, get_or, Vec}
use Rattle.std.specs.declared.alloc.Global.{Global}
use Rattle.tableau_rules.specs.declared.edges.Edges.{Edges}
use Rattle.tableau_rules.specs.Links.{Among, IsHead}
use Rattle.tableau_rules.specs.Levels.{HasLevels, Alive}

-- where a living place carries the until, these are levels, and the place has one
abbrev pub LevelsFor : List Edges → (ℕ → ℕ → Bool) → (ℕ → ℕ → Bool) → List Bool → ℕ → List ℕ → Type 0
LevelsFor links carrying fulfilling alive e levels =
    (k : ℕ) → k < length links → Alive alive k → carrying e k ≡ true → HasLevels links (fulfilling e) alive levels × (get_or levels k 0 < length links)

-- the table has them for each number
abbrev pub AllLevels : List Edges → (ℕ → ℕ → Bool) → (ℕ → ℕ → Bool) → List Bool → List (Vec ℕ Global) → Type 0
AllLevels links carrying fulfilling alive table =
    (e : ℕ) (levels : Vec ℕ Global) → e < length table → levels ≡ get_or table e levels → LevelsFor links carrying fulfilling alive e levels.items

-- a level that the place can take: any where it fulfils in a living kid, else one above that of a living kid
abbrev pub IsLevelFor : (ℕ → Bool) → List Bool → List ℕ → List ℕ → ℕ → ℕ → Type 0
IsLevelFor fulfilling alive levels kids k level =
    ((fulfilling k ≡ true) × ((p : ℕ) × IsHead p kids × Alive alive p)) ⊎ ((p : ℕ) × Among p kids × Alive alive p × (get_or levels p 0 < level))
