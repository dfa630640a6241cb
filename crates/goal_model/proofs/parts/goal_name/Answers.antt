use Rattle.std.proofs.Common.{◌<◌, length}
use Rattle.std.proofs.lemmas.List.{length-map}
use Rattle.goal_model.specs.Models.{GoalForm, goal_of}
use Rattle.goal_model.proofs.Tables.{name_at}
use Rattle.goal_model.proofs.parts.goal_name.Goals as goal

pub returns : goal.returns
returns c =
    let inside : c.args.place < length c.args.contents.now.goals.items = rw length-map at c.requires in
    name_at goal_of (λ (x : GoalForm). x.name) c.args.contents.now.goals.items c.args.place c.index.result.now inside c.index.ensures
