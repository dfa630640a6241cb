use Rattle.std.proofs.Common.{◌≡◌, Some, sym, ap, ◌∙◌, arith, rules}
use Rattle.goal_model.specs.declared.namespace.Meaning.{Meaning}
use Rattle.goal_model.specs.Meanings.{meaning_view}
use Rattle.goal_model.specs.Scopes.{number_of, scope_of}
use Rattle.goal_model.proofs.Places.{attribute_small}
use Rattle.goal_model.proofs.VariableRows.{attribute_meant, row_inside}
use Rattle.goal_model.proofs.variable_list.row.Goals as goal

pub overflow_cast-place : goal.overflow_cast-place
overflow_cast-place c =
    let is : number_of c.in-Some-Another.kind ≡ 9 = search rules in
    omega (arith, attribute_small c.args.scope.now.entities.now c.in-Some-Another.place (attribute_meant (scope_of c.args.scope.now) c.args.name.now c.in-Some-Another.kind c.in-Some-Another.place c.requires (ap (λ (m : Meaning). Some (meaning_view m)) (sym c.in-Some-Another.field-0-is) ∙ c.in-Some-Another.ensures.exact) is))

pub attribute_row-requires-clause-attribute : goal.attribute_row-requires-clause-attribute
attribute_row-requires-clause-attribute c =
    let is : number_of c.in-Some-Another.kind ≡ 9 = search rules in
    attribute_meant (scope_of c.args.scope.now) c.args.name.now c.in-Some-Another.kind c.in-Some-Another.place c.requires (ap (λ (m : Meaning). Some (meaning_view m)) (sym c.in-Some-Another.field-0-is) ∙ c.in-Some-Another.ensures.exact) is

pub returns-in_ok-attribute_row-in-Some-Another-clause-inside : goal.returns-in_ok-attribute_row-in-Some-Another-clause-inside
returns-in_ok-attribute_row-in-Some-Another-clause-inside c =
    let is : number_of c.in-Some-Another.kind ≡ 9 = search rules in
    let s = scope_of c.args.scope.now in
    let there = attribute_meant s c.args.name.now c.in-Some-Another.kind c.in-Some-Another.place c.requires (ap (λ (m : Meaning). Some (meaning_view m)) (sym c.in-Some-Another.field-0-is) ∙ c.in-Some-Another.ensures.exact) is in
    row_inside s c.in-Some-Another.place c.in_ok-attribute_row-in-Some-Another.field-0.items c.requires there c.in_ok-attribute_row-in-Some-Another.ensures
