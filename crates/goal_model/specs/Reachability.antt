-- Which goals are reached from which over refinements, and when a refinement closes a cycle.
use Rattle.std.specs.Prelude.{◌≡◌, ℕ, zero, suc, ◌⊎◌, Bool, false, not, ◌||◌, List, [], Contains, length, filter, flat_map, ◌==◌, if◌then◌else◌}
use Rattle.std.specs.List.{list_any}
use Rattle.goal_model.specs.Models.{LinkForm, refine}

-- the subgoals that a link gives a goal
abbrev pub subgoals_by : ℕ → LinkForm → List ℕ
subgoals_by goal (refine statement parent subgoals pattern) = if parent == goal then subgoals else []
subgoals_by goal link = []

-- a goal is a subgoal of another
abbrev pub IsSubgoal : List LinkForm → ℕ → ℕ → Type 0
IsSubgoal links from to = (l : LinkForm) × Contains links l × Contains (subgoals_by from l) to

-- a goal is reached from another over one link or more
pub data Reaches (links : List LinkForm) : ℕ → ℕ → Type 0 where
  in_one : (from to : ℕ) → IsSubgoal links from to → Reaches links from to
  in_more : (from next to : ℕ) → IsSubgoal links from next → Reaches links next to → Reaches links from to

-- the parent is among the subgoals, or reached from one of them
abbrev pub IsCyclic : List LinkForm → ℕ → List ℕ → Type 0
IsCyclic links parent subgoals = (g : ℕ) × Contains subgoals g × ((g ≡ parent) ⊎ Reaches links g parent)

-- ---- the same as a test

-- whether a link has a goal among its subgoals
abbrev pub has_subgoal : ℕ → LinkForm → Bool
has_subgoal goal (refine statement parent subgoals pattern) = list_any (λ g. g == goal) subgoals
has_subgoal goal link = false

-- whether a link refines one of these goals
abbrev pub refines_any : List ℕ → LinkForm → Bool
refines_any goals (refine statement parent subgoals pattern) = list_any (λ g. g == parent) goals
refines_any goals link = false

-- whether some link has a goal among its subgoals
abbrev pub is_subgoal : List LinkForm → ℕ → Bool
is_subgoal links goal = list_any (has_subgoal goal) links

-- whether some link refines one of these goals
abbrev pub are_refined : List LinkForm → List ℕ → Bool
are_refined links goals = list_any (refines_any goals) links

-- whether a link refines a goal
abbrev pub refines : ℕ → LinkForm → Bool
refines goal (refine statement parent subgoals pattern) = parent == goal
refines goal link = false

-- the links but those that refine a goal
abbrev pub without : ℕ → List LinkForm → List LinkForm
without goal links = filter (λ l. not (refines goal l)) links

-- whether one of the goals is this one, or it is reached from one of them: a goal that was left is not left again, so that as many steps as
-- there are links are enough
unfoldable pub is_reached : ℕ → List LinkForm → ℕ → List ℕ → Bool
is_reached zero links goal from = list_any (λ g. g == goal) from
is_reached (suc n) links goal from = list_any (λ g. g == goal || is_reached n (without g links) goal (flat_map (subgoals_by g) links)) from

abbrev pub closes_cycle : List LinkForm → ℕ → List ℕ → Bool
closes_cycle links parent subgoals = is_reached (length links) links parent subgoals
