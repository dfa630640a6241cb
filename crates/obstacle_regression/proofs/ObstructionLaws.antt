-- The demands of an obstruction, by the traces of the domain.
use Rattle.std.proofs.Common.{◌↔◌, ℕ, Bool, true, false, List, [], ◌∷◌, get_or}
use Rattle.std.proofs.lemmas.List.Elements.{All-cons, All-head, All-tail, All-contains, All-contains_itself}
use Rattle.temporal_logic.specs.Truth.{Trace, Truth}
use Rattle.temporal_logic.proofs.Equivalences.{iff_refl}
use Rattle.goal_model.specs.declared.item.Part.{Part}
use Rattle.goal_model.specs.declared.item.Part.TheVariants.{Goal, Obstacle}
use Rattle.goal_model.specs.declared.item.Wanted.TheVariants.{NoTrace, SomeTrace}
use Rattle.goal_model.specs.Models.{ModelForm}
use Rattle.goal_model.specs.Items.{all_as, obstructs_item, possible_item, covered_item}
use Rattle.goal_model.specs.Conditions.{MeetsSigned, Stands}
use Rattle.operationalisation.proofs.EachOf.{one_iff, append_iff, map_iff}
use Rattle.obstacle_regression.specs.Obstructions.{obstacle_at, Obstructs, IsPossible, Cover}

module _ (m : ModelForm) where
  abbrev IsMet : Trace → Part × Bool → Type 0
  IsMet t p = MeetsSigned m t p.1 p.0

  abbrev IsMissed : Trace → ℕ → Type 0
  IsMissed t o = Truth t (obstacle_at m o) 0 → ⊥

  -- no trace has both exactly where none that has the obstacle has the goal
  pub obstructs_stands : (statement goal obstacle : ℕ) → Stands m NoTrace (obstructs_item m statement goal obstacle).parts ↔ Obstructs m obstacle goal
  obstructs_stands statement goal obstacle = (
    λ h t is hindered achieved. h (t, is.0, (is.1, All-cons (IsMet t) (Obstacle obstacle, true) ((Goal goal, true) ∷ []) hindered ((one_iff (IsMet t) (Goal goal, true)).1 achieved))),
    λ h found.
        let both = found.2.1 in
        h found.0 (found.1, found.2.0) (All-head (IsMet found.0) (Obstacle obstacle, true) ((Goal goal, true) ∷ []) both) ((one_iff (IsMet found.0) (Goal goal, true)).0 (All-tail (IsMet found.0) (Obstacle obstacle, true) ((Goal goal, true) ∷ []) both)),
  )

  pub possible_stands : (statement goal obstacle : ℕ) → Stands m SomeTrace (possible_item m statement goal obstacle).parts ↔ IsPossible m obstacle
  possible_stands statement goal obstacle = (
    λ found. (found.0, (found.1, found.2.0), (one_iff (IsMet found.0) (Obstacle obstacle, true)).0 found.2.1),
    λ found. (found.0, found.1.0, (found.1.1, (one_iff (IsMet found.0) (Obstacle obstacle, true)).1 found.2)),
  )

  -- no trace misses the obstacles and the goal exactly where none that misses each obstacle misses the goal
  pub covered_stands : (statement goal : ℕ) (obstacles : List ℕ) → Stands m NoTrace (covered_item m statement goal obstacles).parts ↔ Cover m obstacles goal
  covered_stands statement goal obstacles = (
    λ h t is none missed.
        let each = (map_iff (IsMet t) (IsMissed t) (λ o. (Obstacle o, false)) (λ o. iff_refl) obstacles).1 (λ k d l. none (get_or obstacles k d) (All-contains_itself obstacles k d l)) in
        h (t, is.0, (is.1, (append_iff (IsMet t) (all_as Obstacle false obstacles) ((Goal goal, false) ∷ [])).1 (each, (one_iff (IsMet t) (Goal goal, false)).1 missed))),
    λ h found.
        let t = found.0 in
        let both = (append_iff (IsMet t) (all_as Obstacle false obstacles) ((Goal goal, false) ∷ [])).0 found.2.1 in
        let each = (map_iff (IsMet t) (IsMissed t) (λ o. (Obstacle o, false)) (λ o. iff_refl) obstacles).0 both.0 in
        h t (found.1, found.2.0) (λ o has. All-contains (IsMissed t) obstacles o each has) ((one_iff (IsMet t) (Goal goal, false)).0 both.1),
  )
