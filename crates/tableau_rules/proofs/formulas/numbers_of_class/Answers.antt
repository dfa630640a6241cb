use Rattle.std.proofs.Common.{arith, ◌∙◌}
use Rattle.formula_table.specs.Tables.{closure_in}
use Rattle.tableau_rules.proofs.ClassSets.{class_with, class_without, class_all}
use Rattle.tableau_rules.proofs.formulas.numbers_of_class.Goals.{then-class_of-class+in_ok-add, else-class_of-class}
use Rattle.tableau_rules.proofs.formulas.numbers_of_class.Goals as goal

pub formulas-preserved : goal.formulas-preserved
formulas-preserved c =
    let closure = closure_in c.args.table.now in
    elim c.if-class_of-class.branch [
      | then-class_of-class+in_ok-add w ↦
          class_with closure c.args.class c.formulas.number c.class_of.result c.formulas.numbers c.if-class_of-class.numbers c.class_of.ensures.class w.if-class_of-class.true c.formulas.invariant (w.numbers-is ∙ w.in_ok-add.ensures.added)
      | else-class_of-class w ↦
          w.numbers-is ∙ class_without closure c.args.class c.formulas.number c.class_of.result c.formulas.numbers c.class_of.ensures.class w.if-class_of-class.false c.formulas.invariant
    ]

pub returns : goal.returns
returns c = class_all (closure_in c.args.table.now) c.args.class c.formulas.number c.formulas.numbers (omega arith) c.formulas.invariant
