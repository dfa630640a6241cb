use Rattle.std.proofs.Common.{◌≡◌, take}
use Rattle.entity_types.specs.Joined.{joined_names}
use Rattle.entity_types.proofs.joined.joined_names.Given as goal

abbrev pub invariant-members : goal.invariant-members
invariant-members l = l.joined.items ≡ joined_names l.attr (take l.member-index l.members)
