use Rattle.std.proofs.Common.{◌≡◌, ◌<◌, length, get_or, map, ap, ◌∙◌, subst, arith, rules}
use Rattle.std.proofs.lemmas.List.{get_or-map, length-map}
use Rattle.entity_types.specs.declared.entities.Attribute.{Attribute}
use Rattle.entity_types.specs.View.{rows_of}
use Rattle.entity_types.proofs.entities.Entities.entity_of.Goals as goal

pub returns-clause-inside : goal.returns-clause-inside
returns-clause-inside c =
    let attributes = c.args.self.now.attributes.items in
    let found = c.index.result.now in
    let inside : c.args.attr < length attributes = omega (arith, length-map attributes (λ (a : Attribute). a.entity), c.requires) in
    let same : get_or attributes c.args.attr found ≡ found = search rules in
    let owner = get_or-map (λ (a : Attribute). a.entity) attributes c.args.attr found 0 inside ∙ ap (λ (a : Attribute). a.entity) same in
    subst (λ n. n < length (rows_of c.args.self.now).counts) owner (c.args.self.now.placed.owned c.args.attr c.requires)
