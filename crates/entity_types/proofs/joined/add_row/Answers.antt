use Rattle.std.proofs.Common.{◌≡◌, ◌≢◌, ◌++◌, ◌∙◌, List, ℕ, map, ap, subst, rules, AllPairs}
use Rattle.state_space.specs.Ranges.{form_of}
use Rattle.state_space.specs.Spaces.{ranges}
use Rattle.entity_types.specs.Joined.{joined_names}
use Rattle.entity_types.proofs.JoinedNames.{joined_apart, same_copies}
use Rattle.entity_types.proofs.joined.add_row.Goals as goal

pub add_variables-requires-clause-distinct : goal.add_variables-requires-clause-distinct
add_variables-requires-clause-distinct c =
    let is : joined_names c.args.attr.now c.args.members.now ≡ c.deref.result.now = search rules in
    subst (λ (ns : List (List ℕ)). AllPairs (λ a b. a ≢ b) ns) is (joined_apart c.args.attr.now c.args.members.now c.requires.distinct)

pub returns-clause-ranges : goal.returns-clause-ranges
returns-clause-ranges c =
    let range = form_of c.args.range.now in
    let is : c.deref.result.now ≡ joined_names c.args.attr.now c.args.members.now = search rules in
    c.in_ok-add_variables.ensures.ranges ∙ ap (λ (ns : List (List ℕ)). ranges c.args.space.now ++ map (λ n. range) ns) is ∙ ap (λ rs. ranges c.args.space.now ++ rs) (same_copies range c.args.attr.now c.args.members.now)
