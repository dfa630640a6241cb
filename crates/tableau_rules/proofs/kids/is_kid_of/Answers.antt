use Rattle.std.proofs.Common.{◌≡◌, ◌↔◌, IsTrue, List, Some, slice_get, sym, subst, ◌∙◌, true≢false}
use Rattle.formula_table.specs.Tables.{closure_in}
use Rattle.tableau_rules.specs.Nodes.{NodeForm}
use Rattle.tableau_rules.specs.Turns.{sets_of}
use Rattle.tableau_rules.specs.NodeView.{node_of}
use Rattle.tableau_rules.proofs.KidLists.{kids_step, kids_made}
use Rattle.tableau_rules.proofs.kids.is_kid_of.Goals as goal

pub returns-then-is_step : goal.returns-then-is_step
returns-then-is_step c =
    let table = c.args.formulas.now.table in
    let turn = c.turn-turn in
    let only = kids_step (closure_in table) table.distinct (sets_of c.args.full.now) (node_of c.args.node.now) turn.result.0 turn.ensures.below turn.ensures.rule
    (c.is_step.ensures.step.0 c.if-is_step.true) in
    record { kid = subst (λ (ks : List NodeForm). IsTrue c.is_only.result ↔ (slice_get ks c.args.which ≡ Some (node_of c.args.other.now))) (sym only) c.is_only.ensures.only }

pub returns-else-is_step : goal.returns-else-is_step
returns-else-is_step c =
    let table = c.args.formulas.now.table in
    let turn = c.turn-turn in
    let made = kids_made (closure_in table) table.distinct (sets_of c.args.full.now) (node_of c.args.node.now) turn.result.0 turn.ensures.below turn.ensures.rule
    turn.result.1.0 turn.ensures.chosen (λ step. true≢false (sym (c.is_step.ensures.step.1 step) ∙ c.if-is_step.false)) in
    record { kid = subst (λ (ks : List NodeForm). IsTrue c.is_made.result ↔ (slice_get ks c.args.which ≡ Some (node_of c.args.other.now))) (sym made) c.is_made.ensures.made }
