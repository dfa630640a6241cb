use Rattle.std.proofs.Common.{◌∙◌, ◌↔◌, List, ℕ, subst, Contains}
use Rattle.std.specs.Prelude.{IsSome, is_some}
use Rattle.state_space.specs.Spaces.{names}
use Rattle.entity_types.proofs.JoinedNames.{found_among}
use Rattle.entity_types.proofs.joined.is_taken.Goals as goal

pub returns : goal.returns
returns c =
    let taken = names c.args.space.now in
    c.is_some.ensures ∙ found_among taken c.args.name.now (is_some c.find.result) (subst (λ (n : List ℕ). IsSome c.find.result ↔ Contains taken n) c.bytes.ensures.bytes c.find.ensures.some)
