use Rattle.std.proofs.Common.{IsTrue, sym, ◌∙◌}
use Rattle.tableau_rules.specs.Turns.{effects_of}
use Rattle.tableau_rules.specs.NodeView.{node_of}
use Rattle.tableau_rules.specs.KidsView.{kid_by}
use Rattle.tableau_rules.proofs.KidLists.{iff_mapped, iff_none}
use Rattle.tableau_rules.proofs.kids.is_made.Goals as goal

pub returns-in-Some : goal.returns-in-Some
returns-in-Some c =
    let f = kid_by (node_of c.args.node.now) c.args.id.0 in
    record { made = iff_mapped (IsTrue c.is_changed.result) f (effects_of c.args.turn) c.args.which c.in-Some.effect (node_of c.args.other.now) (sym c.effect_at.ensures.effect ∙ c.in-Some.is) c.is_changed.ensures.changed }

pub returns-in-None : goal.returns-in-None
returns-in-None c =
    let f = kid_by (node_of c.args.node.now) c.args.id.0 in
    record { made = iff_none f (effects_of c.args.turn) c.args.which (node_of c.args.other.now) (sym c.effect_at.ensures.effect ∙ c.in-None.is) }
