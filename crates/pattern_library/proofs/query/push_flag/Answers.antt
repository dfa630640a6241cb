use Rattle.std.proofs.Common.{refl}
use Rattle.pattern_library.proofs.query.push_flag.Goals as goal

pub unreachable-requires : goal.unreachable-requires
unreachable-requires c = c.requires.new (c.add.ensures.duplicate.0 (rw (c.in-Err-DuplicateVar.is, c.in-Err-DuplicateVar.field-0-is) refl))
