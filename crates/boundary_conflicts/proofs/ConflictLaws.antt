-- The demands of a conflict, by the traces of the domain.
use Rattle.std.proofs.Common.{◌↔◌, ℕ, Bool, true, List, ◌++◌, get_or}
use Rattle.std.proofs.lemmas.List.Elements.{All-cons, All-head, All-tail, All-contains, All-contains_itself}
use Rattle.std.specs.Prelude.{All}
use Rattle.temporal_logic.specs.Truth.{Trace, Truth}
use Rattle.temporal_logic.proofs.Equivalences.{iff_refl}
use Rattle.goal_model.specs.declared.item.Part.{Part}
use Rattle.goal_model.specs.declared.item.Part.TheVariants.{Goal, Boundary}
use Rattle.goal_model.specs.declared.item.Wanted.TheVariants.{NoTrace, SomeTrace}
use Rattle.goal_model.specs.Models.{ModelForm}
use Rattle.goal_model.specs.Items.{all_as, diverges_item, without_item, feasible_item}
use Rattle.goal_model.specs.Conditions.{MeetsSigned, Stands}
use Rattle.operationalisation.specs.Operationalisations.{goal_at}
use Rattle.operationalisation.proofs.EachOf.{one_iff, map_iff}
use Rattle.boundary_conflicts.specs.Conflicts.{HasGoals, Diverge, Coexist, IsFeasible}

module _ (m : ModelForm) where
  abbrev IsMet : Trace → Part × Bool → Type 0
  IsMet t p = MeetsSigned m t p.1 p.0

  abbrev HasGoal : Trace → ℕ → Type 0
  HasGoal t g = Truth t (goal_at m g) 0

  -- goals as parts of an item are met exactly where the trace has them
  goals_met : (t : Trace) (goals : List ℕ) → All (IsMet t) (all_as Goal true goals) ↔ HasGoals m t goals
  goals_met t goals =
      let each = map_iff (IsMet t) (HasGoal t) (λ g. (Goal g, true)) (λ g. iff_refl) goals in (
        λ met g has. All-contains (HasGoal t) goals g (each.0 met) has,
        λ has. each.1 (λ k d l. has (get_or goals k d) (All-contains_itself goals k d l)),
      )

  -- no trace has the condition and the goals exactly where none that has the condition has the goals
  pub diverges_stands : (link statement : ℕ) (name : List ℕ) (goals : List ℕ) → Stands m NoTrace (diverges_item link statement name goals).parts ↔ Diverge m link goals
  diverges_stands link statement name goals = (
    λ h t is bounded has. h (t, is.0, (is.1, All-cons (IsMet t) (Boundary link, true) (all_as Goal true goals) bounded ((goals_met t goals).1 has))),
    λ h found.
        let t = found.0 in
        let all = found.2.1 in
        h t (found.1, found.2.0) (All-head (IsMet t) (Boundary link, true) (all_as Goal true goals) all) ((goals_met t goals).0 (All-tail (IsMet t) (Boundary link, true) (all_as Goal true goals) all)),
  )

  -- some trace has the condition and the others as parts exactly where one has the condition and them
  pub without_stands : (link statement : ℕ) (name : List ℕ) (before : List ℕ) (goal : ℕ) (behind : List ℕ) → Stands m SomeTrace (without_item m link statement name before goal behind).parts ↔ Coexist m link (before ++ behind)
  without_stands link statement name before goal behind =
      let others = before ++ behind in (
        λ found.
            let t = found.0 in
            let all = found.2.1 in
            (t, (found.1, found.2.0), All-head (IsMet t) (Boundary link, true) (all_as Goal true others) all, (goals_met t others).0 (All-tail (IsMet t) (Boundary link, true) (all_as Goal true others) all)),
        λ found.
            let t = found.0 in
            (t, found.1.0, (found.1.1, All-cons (IsMet t) (Boundary link, true) (all_as Goal true others) found.2 ((goals_met t others).1 found.3))),
      )

  pub feasible_stands : (link statement : ℕ) (name : List ℕ) → Stands m SomeTrace (feasible_item link statement name).parts ↔ IsFeasible m link
  feasible_stands link statement name = (
    λ found. (found.0, (found.1, found.2.0), (one_iff (IsMet found.0) (Boundary link, true)).0 found.2.1),
    λ found. (found.0, found.1.0, (found.1.1, (one_iff (IsMet found.0) (Boundary link, true)).1 found.2)),
  )
