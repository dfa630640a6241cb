use Rattle.std.proofs.Common.{ℕ, List, ◌∙◌, Bool, sym, ap}
use Rattle.std.specs.Prelude.{bytes_eq}
use Rattle.std.specs.List.{position}
use Rattle.goal_model.specs.declared.contents.Goal.{Goal}
use Rattle.goal_model.specs.Models.{GoalForm, goal_of}
use Rattle.kaos_program.proofs.GoalPlaces.{position_mapped}
use Rattle.kaos_program.proofs.regression.goal_named.Goals as goal

pub returns-clause-place : goal.returns-clause-place
returns-clause-place c =
    let has : GoalForm → Bool = λ g. bytes_eq g.name c.args.name.now in
    c.place_of.ensures.place
    ∙ ap (λ (name : List ℕ). position (λ (g : Goal). bytes_eq g.name name) c.goals.result.now) c.as_bytes.ensures.value
    ∙ sym (position_mapped has goal_of c.goals.result.now)
    ∙ ap (position has) c.goals.ensures
