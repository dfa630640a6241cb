use Rattle.std.proofs.Common.{◌∙◌, Err, ap, subst, sym}
use Rattle.state_space.specs.Names.{IsName}
use Rattle.model_tokens.proofs.CutNames.{cut_is_name, cut_by_length}
use Rattle.model_tokens.proofs.token.Word.name.Goals as goal

pub unreachable-requires : goal.unreachable-requires
unreachable-requires c =
    let is_name = cut_is_name c.args.self.now.bytes.now c.args.self.now.form c.args.self.now.free in
    let refused = c.new.ensures.not_a_name.0 (c.in-Err-NotAName.is ∙ ap (λ e. Err e) c.in-Err-NotAName.field-0-is) in
    refused (subst IsName (sym (cut_by_length c.args.self.now.bytes.now c.min.result c.min.ensures)) is_name)

pub returns-in-Ok : goal.returns-in-Ok
returns-in-Ok c = c.in-Ok.ensures.name ∙ cut_by_length c.args.self.now.bytes.now c.min.result c.min.ensures
