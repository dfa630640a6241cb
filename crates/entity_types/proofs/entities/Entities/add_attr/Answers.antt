use Rattle.std.proofs.Common.{◌≡◌, ◌+◌, ◌≤◌, ◌++◌, ◌∷◌, [], ℕ, List, length, is_ok, ap, ◌∙◌, sym, subst, rules}
use Rattle.state_space.specs.Spaces.{names}
use Rattle.entity_types.specs.declared.entities.Attribute.{Attribute}
use Rattle.entity_types.specs.Joined.{joined_names}
use Rattle.entity_types.proofs.MoreAttributes.{Among, among_more, placed_grown}
use Rattle.entity_types.proofs.entities.Entities.add_attr.Goals as goal

pub invariant_of-self-clause-placed : goal.invariant_of-self-clause-placed
invariant_of-self-clause-placed c =
    let self = c.args.self.now in
    let added : Attribute = record { name = c.args.name; entity = c.args.entity; first = c.in_ok-first.first } in
    let room = subst (λ (ms : List (List ℕ)). length (names c.args.space.now) + length ms ≤ 64) c.members.ensures.members c.in_ok-first.ensures.taken.room in
    placed_grown self.types.items self.attributes.items added (names c.args.space.now) c.in_ok-first.ensures.first (is_ok c.push.result) c.push.new.self.items self.placed c.requires.among c.requires.entity room c.push.ensures.items

pub returns-clause-among : goal.returns-clause-among
returns-clause-among c =
    let self = c.args.self.now in
    let added : Attribute = record { name = c.args.name; entity = c.args.entity; first = c.in_ok-first.first } in
    let more = among_more self.types.items self.attributes.items added (names c.args.space.now) c.in_ok-first.ensures.first c.requires.among in
    let later = c.in_ok-first.ensures.names ∙ ap (λ (ms : List (List ℕ)). names c.args.space.now ++ joined_names c.args.name ms) c.members.ensures.members in
    let attributes : c.push.new.self.items ≡ self.attributes.items ++ added ∷ [] = search rules in
    subst (λ (rs : List Attribute). Among self.types.items rs (names c.add_row.new.space)) (sym attributes) (subst (λ (ns : List (List ℕ)). Among self.types.items (self.attributes.items ++ added ∷ []) ns) (sym later) more)
