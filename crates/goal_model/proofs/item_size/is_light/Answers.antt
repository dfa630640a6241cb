use Rattle.std.proofs.Common.{map}
use Rattle.std.proofs.lemmas.Bool.{leb-true}
use Rattle.state_space.specs.Spaces.{sizes}
use Rattle.goal_model.specs.Models.{PropertyForm, contents_of}
use Rattle.goal_model.specs.Items.{list_of}
use Rattle.goal_model.proofs.WeighedParts.{within_small}
use Rattle.goal_model.proofs.item_size.is_light.Goals as goal

pub returns : goal.returns
returns c contents ready known few =
    let m = contents_of contents in
    let domains = c.total.ensures (sizes contents.space) (map (λ (p : PropertyForm). p.formula) m.domains) ready.domains in
    within_small (sizes contents.space) (list_of m c.args.parts.now) c.total-2.result (c.total-2.ensures (sizes contents.space) m ready.weights known domains) (leb-true c.total-2.result 4096 few)
