use Rattle.std.proofs.Common.{◌<◌, length}
use Rattle.std.proofs.lemmas.List.{length-map}
use Rattle.goal_model.specs.Models.{AgentForm, agent_of}
use Rattle.goal_model.proofs.Tables.{name_at}
use Rattle.goal_model.proofs.parts.agent_name.Goals as goal

pub returns : goal.returns
returns c =
    let inside : c.args.place < length c.args.contents.now.agents.items = rw length-map at c.requires in
    name_at agent_of (λ (x : AgentForm). x.name) c.args.contents.now.agents.items c.args.place c.index.result.now inside c.index.ensures
