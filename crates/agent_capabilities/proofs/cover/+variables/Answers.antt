use Rattle.std.proofs.Common.{◌∙◌, ap}
use Rattle.std.specs.Prelude.{option_map}
use Rattle.temporal_logic.specs.Shapes.{variables_of}
use Rattle.temporal_logic.specs.Trees.{tree_of}
use Rattle.agent_capabilities.proofs.Searching.{first_or}
use Rattle.agent_capabilities.proofs.cover.+variables.Goals as goal

pub first_of_both-returns : goal.first_of_both-returns
first_of_both-returns t c =
    ap (option_map (λ v. v.0)) c.or.ensures ∙ first_or c.args.set.0 c.args.inside (variables_of (tree_of c.args.a.now)) (variables_of (tree_of c.args.b.now)) c.first.result c.first-2.result c.first.ensures c.first-2.ensures
