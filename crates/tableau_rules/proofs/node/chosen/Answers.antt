use Rattle.std.proofs.Common.{sym, ap, ◌∙◌}
use Rattle.formula_table.specs.Tables.{closure_in}
use Rattle.tableau_rules.specs.Sets.{first_in}
use Rattle.tableau_rules.proofs.ClassSets.{chosen_first, chosen_second, chosen_third, first_below}
use Rattle.tableau_rules.proofs.node.chosen.Goals as goal

pub returns-in-Some : goal.returns-in-Some
returns-in-Some c =
    let closure = closure_in c.args.formulas.now.table in
    let todo = c.args.todo.now in
    let is = ap (λ s. first_in s todo) (sym c.args.formulas.now.firsts) ∙ (sym c.first_in.ensures ∙ c.in-Some.is) in
    record { chosen = sym (chosen_first closure todo c.requires c.in-Some.number is); inside = λ _. first_below closure todo c.requires _ c.in-Some.number is }

pub returns-in-Some-first_in-clause-chosen : goal.returns-in-Some-first_in-clause-chosen
returns-in-Some-first_in-clause-chosen c =
    let closure = closure_in c.args.formulas.now.table in
    let todo = c.args.todo.now in
    let none = ap (λ s. first_in s todo) (sym c.args.formulas.now.firsts) ∙ (sym c.first_in.ensures ∙ c.in_default.is) in
    let is = ap (λ s. first_in s todo) (sym c.args.formulas.now.seconds) ∙ (sym c.first_in-2.ensures ∙ c.in-Some-first_in.is) in
    sym (chosen_second closure todo c.requires c.in-Some-first_in.number none is)

pub returns-in-Some-first_in-clause-inside : goal.returns-in-Some-first_in-clause-inside
returns-in-Some-first_in-clause-inside c = λ _. first_below (closure_in c.args.formulas.now.table) c.args.todo.now c.requires _ c.in-Some-first_in.number (sym c.first_in-2.ensures ∙ c.in-Some-first_in.is)

pub returns-in-Some-least_from-clause-chosen : goal.returns-in-Some-least_from-clause-chosen
returns-in-Some-least_from-clause-chosen c =
    let closure = closure_in c.args.formulas.now.table in
    let todo = c.args.todo.now in
    let none = ap (λ s. first_in s todo) (sym c.args.formulas.now.firsts) ∙ (sym c.first_in.ensures ∙ c.in_default.is) in
    let none_again = ap (λ s. first_in s todo) (sym c.args.formulas.now.seconds) ∙ (sym c.first_in-2.ensures ∙ c.in_default-first_in.is) in
    sym (chosen_third closure todo c.requires c.in-Some-least_from.number none none_again (sym c.least_from.ensures.least ∙ c.in-Some-least_from.is))
