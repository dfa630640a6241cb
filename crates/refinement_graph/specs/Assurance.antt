-- Which goals are assured by what a report says of the links.
use Rattle.std.specs.Prelude.{◌≡◌, ◌↔◌, ℕ, ◌+◌, ◌<◌, Bool, true, false, IsTrue, List, take, map, length, slice_index_or, Option, All, Contains}
use Rattle.temporal_logic.specs.Truth.{Trace, Truth, Meets}
use Rattle.goal_model.specs.declared.pattern.PatternKind.{PatternKind}
use Rattle.goal_model.specs.Models.{LinkForm, refine, operationalise, ModelForm}
use Rattle.goal_model.specs.Items.{no_goal, no_link, items_from}
use Rattle.goal_model.specs.Conditions.{MeetsRequirement}
use Rattle.operationalisation.specs.Operationalisations.{Achieves}
use Rattle.refinement_graph.specs.Refinements.{Entails}

-- the place of the first item of the link at a place, among the items of a report, of which the first is that of the domain properties
abbrev pub first_item : ModelForm → (link : ℕ) → ℕ
first_item m l = 1 + length (items_from m 0 (take l m.links))

abbrev pub link_at : ModelForm → ℕ → LinkForm
link_at m l = slice_index_or m.links l no_link

-- the first two items of the link at a place hold: of a refinement or an operationalisation these are that it is complete and that it is
-- consistent
pub record IsHeld (m : ModelForm) (holds : List Bool) (l : ℕ) : Type 0 where
  pub inside : l < length m.links
  pub complete : slice_index_or holds (first_item m l) false ≡ true
  pub consistent : slice_index_or holds (first_item m l + 1) false ≡ true

-- the least set of goals with these members: each goal that is expected of an agent; each goal with an operationalisation that is held; and
-- each goal with a refinement that is held and whose subgoals are all in the set
pub data IsAssured (m : ModelForm) (holds : List Bool) : ℕ → Type 0 where
  is_expected : (g : ℕ) → g < length m.goals → (slice_index_or m.goals g no_goal).is_expected ≡ true → IsAssured m holds g
  is_operationalised : (l s g : ℕ) (requirements : List ℕ) (exact : Bool) → IsHeld m holds l → link_at m l ≡ operationalise s g requirements exact → IsAssured m holds g
  is_refined : (l s g : ℕ) (subgoals : List ℕ) (pattern : Option PatternKind) → IsHeld m holds l → link_at m l ≡ refine s g subgoals pattern
      → ((h : ℕ) → Contains subgoals h → IsAssured m holds h) → IsAssured m holds g

-- one truth for each goal: whether it is assured
pub record AreAssured (m : ModelForm) (holds marks : List Bool) : Type 0 where
  pub count : length marks ≡ length m.goals
  pub marked : (g : ℕ) → g < length m.goals → IsTrue (slice_index_or marks g false) ↔ IsAssured m holds g

-- ---- what that means

-- each refinement that is held is complete, and each operationalisation that is held achieves its goal
pub record AreRight (m : ModelForm) (holds : List Bool) : Type 0 where
  pub refinements : (l s g : ℕ) (subgoals : List ℕ) (pattern : Option PatternKind) → IsHeld m holds l → link_at m l ≡ refine s g subgoals pattern → Entails m subgoals g
  pub operations : (l s g : ℕ) (requirements : List ℕ) (exact : Bool) → IsHeld m holds l → link_at m l ≡ operationalise s g requirements exact → Achieves m requirements g

-- a trace has all domain properties, all goals that are expected of an agent, and meets all requirements
pub record MeetsModel (m : ModelForm) (t : Trace) : Type 0 where
  pub properties : Meets t (map (λ p. p.formula) m.domains)
  pub expected : All (λ g. g.is_expected ≡ true → Truth t g.formula 0) m.goals
  pub requirements : All (MeetsRequirement m t) m.requirements
