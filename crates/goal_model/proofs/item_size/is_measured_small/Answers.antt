use Rattle.std.proofs.Common.{◌∙◌, map}
use Rattle.state_space.specs.Spaces.{sizes}
use Rattle.goal_model.specs.Models.{PropertyForm, contents_of}
use Rattle.goal_model.specs.Items.{list_of}
use Rattle.goal_model.proofs.MeasuredLists.{measures_back}
use Rattle.goal_model.proofs.item_size.is_measured_small.Goals as goal

pub returns-clause-small : goal.returns-clause-small
returns-clause-small c = c.is_small-is_small.ensures (sizes c.args.contents.now.space) (list_of (contents_of c.args.contents.now) c.args.parts.now) c.in_ok-add_parts.ensures.measured

pub returns-clause-domains : goal.returns-clause-domains
returns-clause-domains c =
    measures_back (sizes c.args.contents.now.space) (map (λ (p : PropertyForm). p.formula) (contents_of c.args.contents.now).domains) c.args.domains.now c.add_parts.new.measured c.back.new.self c.mark-mark.result.len
    c.requires.domains c.in_ok-add_parts.ensures.kept c.mark-mark.ensures.length c.back.ensures.closure (c.back.ensures.small ∙ c.mark-mark.ensures.small)
