use Rattle.std.proofs.Common.{◌<◌, length}
use Rattle.std.proofs.lemmas.List.{length-map}
use Rattle.goal_model.specs.Models.{RequirementForm, requirement_of}
use Rattle.goal_model.proofs.Tables.{name_at}
use Rattle.goal_model.proofs.parts.requirement_name.Goals as goal

pub returns : goal.returns
returns c =
    let inside : c.args.place < length c.args.contents.now.requirements.items = rw length-map at c.requires in
    name_at requirement_of (λ (x : RequirementForm). x.name) c.args.contents.now.requirements.items c.args.place c.index.result.now inside c.index.ensures
