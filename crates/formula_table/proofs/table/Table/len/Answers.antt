use Rattle.std.proofs.Common.{sym, ◌∙◌}
use Rattle.formula_table.proofs.Decodings.{decoded_length}
use Rattle.formula_table.proofs.table.Table.len.Goals as goal

pub returns : goal.returns
returns c = record { length = c.len.ensures.len ∙ sym (decoded_length c.args.self.now.shapes.keys) }
