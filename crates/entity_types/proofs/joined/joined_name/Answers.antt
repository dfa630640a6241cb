use Rattle.std.proofs.Common.{◌≡◌, Err, ap, ◌∙◌, subst, arith}
use Rattle.std.proofs.lemmas.Grind.{common_steps}
use Rattle.state_space.specs.Names.{IsName}
use Rattle.entity_types.specs.Joined.{joined_name}
use Rattle.entity_types.proofs.JoinedNames.{joined_is_name}
use Rattle.entity_types.proofs.joined.joined_name.Goals as goal

pub unreachable-requires : goal.unreachable-requires
unreachable-requires c =
    let is_name = joined_is_name c.args.attr.now c.args.member.now c.bytes.ensures.is_name c.bytes-2.ensures.is_name c.requires.short in
    let refused = c.new.ensures.not_a_name.0 (c.in-Err-NotAName.is ∙ ap (λ e. Err e) c.in-Err-NotAName.field-0-is) in
    let same : joined_name c.args.attr.now c.args.member.now ≡ c.deref.result.now = grind (arith, common_steps) in
    refused (subst IsName same is_name)
