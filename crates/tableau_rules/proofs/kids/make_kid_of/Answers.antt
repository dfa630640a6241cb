use Rattle.std.proofs.Common.{Some, sym, ap, ◌∙◌}
use Rattle.std.proofs.lemmas.Result.{on_ok_weaker}
use Rattle.formula_table.specs.Tables.{closure_in}
use Rattle.tableau_rules.specs.Turns.{sets_of}
use Rattle.tableau_rules.specs.NodeView.{node_of}
use Rattle.tableau_rules.proofs.KidLists.{kid_made, kid_stepped}
use Rattle.tableau_rules.proofs.kids.make_kid_of.Goals as goal

pub returns-in-Some : goal.returns-in-Some
returns-in-Some c =
    let table = c.args.table.now in
    let turn = c.requires.turn in
    let made = kid_made (closure_in table) table.distinct (sets_of c.args.full.now) (node_of c.args.node.now) c.args.turn turn.below turn.rule
    c.args.id.0 c.args.which c.in-Some.effect turn.chosen (sym c.effect_at.ensures.effect ∙ c.in-Some.is) in
    record { kid = on_ok_weaker c.change.result (λ h. made ∙ ap Some (sym h)) c.change.ensures.changed }

pub returns-in-None : goal.returns-in-None
returns-in-None c =
    let table = c.args.table.now in
    let turn = c.requires.turn in
    let made = kid_stepped (closure_in table) table.distinct (sets_of c.args.full.now) (node_of c.args.node.now) c.args.turn turn.below turn.rule
    c.args.which c.requires.which (sym c.effect_at.ensures.effect ∙ c.in-None.is) in
    record { kid = on_ok_weaker c.step.result (λ h. made ∙ ap Some (sym h)) c.step.ensures.stepped }
