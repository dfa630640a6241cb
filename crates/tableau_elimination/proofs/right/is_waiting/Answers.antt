use Rattle.std.proofs.Common.{not, refl, sym, ap, ◌∙◌}
use Rattle.tableau_rules.specs.Links.{fulfils_at}
use Rattle.tableau_elimination.specs.Marks.{carrying_in}
use Rattle.tableau_elimination.proofs.RightMarks.{waiting}
use Rattle.tableau_elimination.proofs.right.is_waiting.Goals as goal

pub returns : goal.returns
returns c = λ t.
    waiting c.args.linked_graph.now.links.now (carrying_in c.args.linked_graph.now) (fulfils_at c.args.linked_graph.now.links.now) c.args.ranks.now c.args.until c.args.place
    (c.if-not-is_carried.ensures refl) (c.if-is_leaf.ensures refl) (ap not (sym c.is_fulfilled_late.ensures) ∙ t)
