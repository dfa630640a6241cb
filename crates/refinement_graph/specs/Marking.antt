-- Marks on the goals of a model, and what a link that is held adds to them.
use Rattle.std.specs.Prelude.{◌≡◌, ℕ, ◌+◌, ◌<◌, ◌⊎◌, Bool, true, false, ◌&&◌, if◌then◌else◌, List, length, slice_index_or, All, Option, Some, None}
use Rattle.std.specs.List.{list_all}
use Rattle.goal_model.specs.Models.{LinkForm, refine, operationalise, ModelForm}
use Rattle.goal_model.specs.Marking.{IsMarked, unmarked}
use Rattle.refinement_graph.specs.Assurance.{first_item, link_at, IsAssured}

-- whether the item at a place and the one behind it hold
abbrev pub both_hold : List Bool → ℕ → Bool
both_hold holds first = slice_index_or holds first false && slice_index_or holds (first + 1) false

-- for each of the first `n` links whether its first two items hold
pub record AreHeldBelow (m : ModelForm) (holds : List Bool) (n : ℕ) (held : List Bool) : Type 0 where
  pub count : length held ≡ n
  pub each : (l : ℕ) → l < n → slice_index_or held l false ≡ both_hold holds (first_item m l)

-- for each link whether its first two items hold
abbrev pub AreHeld : ModelForm → List Bool → List Bool → Type 0
AreHeld m holds held = AreHeldBelow m holds (length m.links) held

-- the goal of a link that supports one, and those that it rests on, have marks
abbrev pub HasMarks : ℕ → LinkForm → Type 0
HasMarks n (refine statement parent subgoals pattern) = (parent < n) × All (λ g. g < n) subgoals
HasMarks n (operationalise statement goal requirements exact) = goal < n
HasMarks n link = Unit {0}

-- whether all of these goals are marked
abbrev pub are_marked : List Bool → List ℕ → Bool
are_marked marks goals = list_all (λ g. slice_index_or marks g false) goals

-- the goal that a link supports: that of an operationalisation, and that of a refinement whose subgoals are all marked
abbrev pub supported : List Bool → LinkForm → Option ℕ
supported marks (refine statement parent subgoals pattern) = if are_marked marks subgoals then Some parent else None
supported marks (operationalise statement goal requirements exact) = Some goal
supported marks link = None

-- the goal that a link supports is marked beside those before; `is_new` says whether it had no mark
pub record MarksSupported (link : LinkForm) (before after : List Bool) (is_new : Bool) : Type 0 where
  pub size : length after ≡ length before
  pub kept : (g : ℕ) → IsMarked before g → IsMarked after g
  pub only : (g : ℕ) → IsMarked after g → IsMarked before g ⊎ (supported before link ≡ Some g)
  pub done : (g : ℕ) → supported before link ≡ Some g → IsMarked after g
  pub fewer : is_new ≡ true → unmarked after < unmarked before
  pub same : is_new ≡ false → after ≡ before

-- each goal that is marked is assured
abbrev pub AreSound : ModelForm → List Bool → List Bool → Type 0
AreSound m holds marks = (g : ℕ) → IsMarked marks g → IsAssured m holds g

-- each goal that one of the first `n` links supports is marked, where the link is held
abbrev pub IsClosedBelow : ModelForm → List Bool → ℕ → List Bool → Type 0
IsClosedBelow m held n marks = (l g : ℕ) → l < n → IsMarked held l → supported marks (link_at m l) ≡ Some g → IsMarked marks g

-- the first `n` links that are held have been gone over: marks stay sound and are not taken back; where none is new, nothing has changed and
-- the marks are closed under these links
pub record IsRoundBelow (m : ModelForm) (held : List Bool) (n : ℕ) (before after : List Bool) (is_new : Bool) : Type 0 where
  pub size : length after ≡ length before
  pub kept : (g : ℕ) → IsMarked before g → IsMarked after g
  pub sound : (holds : List Bool) → AreHeld m holds held → AreSound m holds before → AreSound m holds after
  pub fewer : is_new ≡ true → unmarked after < unmarked before
  pub same : is_new ≡ false → after ≡ before
  pub closed : is_new ≡ false → IsClosedBelow m held n after

-- all links that are held have been gone over
abbrev pub IsRound : ModelForm → List Bool → List Bool → List Bool → Bool → Type 0
IsRound m held before after is_new = IsRoundBelow m held (length m.links) before after is_new
