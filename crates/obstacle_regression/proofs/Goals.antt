-- The goal of the code that is the goal of the model.
use Rattle.std.proofs.Common.{◌≡◌, ℕ, ◌<◌, List, length, map, get_or, sym, ap, ◌∙◌, subst}
use Rattle.std.specs.Prelude.{slice_index_or}
use Rattle.std.proofs.lemmas.List.{length-map, get_or-map}
use Rattle.state_space.specs.Ranges.{RangeForm}
use Rattle.temporal_logic.specs.Fits.{Fits}
use Rattle.temporal_logic.specs.Trees.{tree_of}
use Rattle.goal_model.specs.declared.contents.Goal.{Goal}
use Rattle.goal_model.specs.Models.{GoalForm, ModelForm, goal_of, PartsFit}
use Rattle.goal_model.specs.Items.{no_goal}

module _ (m : ModelForm) (goals : List Goal) (are : map goal_of goals ≡ m.goals) (place : ℕ) (g : Goal) where
  pub goal_is : place < length m.goals → tree_of (get_or goals place g).formula ≡ (slice_index_or m.goals place no_goal).formula
  goal_is inside =
      ap (λ (f : GoalForm). f.formula) (sym (get_or-map goal_of goals place g no_goal (subst (λ n. place < n) (ap length (sym are) ∙ length-map goals goal_of) inside)) ∙ ap (λ gs. get_or gs place no_goal) are)

  pub goal_fits : place < length m.goals → PartsFit m → (ranges : List RangeForm) → ranges ≡ m.ranges → Fits ranges (tree_of (get_or goals place g).formula)
  goal_fits inside fit ranges same = subst (λ r. Fits r (tree_of (get_or goals place g).formula)) (sym same) (subst (Fits m.ranges) (sym (goal_is inside)) (fit.goals place no_goal inside))
