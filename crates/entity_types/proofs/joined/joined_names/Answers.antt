use Rattle.entity_types.proofs.JoinedNames.{short_at}
use Rattle.entity_types.proofs.joined.joined_names.Goals as goal

pub joined_name-requires : goal.joined_name-requires
joined_name-requires c = record { short = short_at c.args.attr.now c.args.members.now c.members.member-index c.member-item.result c.requires.short c.members-test.true c.member-item.is }
