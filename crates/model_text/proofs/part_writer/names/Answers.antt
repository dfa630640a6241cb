use Rattle.std.proofs.Common.{◌∷◌, [], ◌∙◌}
use Rattle.std.proofs.lemmas.Result.{on_ok_weaker}
use Rattle.model_tokens.specs.Tokens.{name}
use Rattle.model_text.proofs.LineLaws.{listed}
use Rattle.model_text.proofs.part_writer.names.Goals as goal

pub returns-in_ok-name-in-len1-up : goal.returns-in_ok-name-in-len1-up
returns-in_ok-name-in-len1-up c =
    let whole = listed (λ x. name x ∷ []) c.args.line.now c.name.new.self c.args.names.now c.first-item.result c.in-len1-up.len_at_least c.first-item.is c.in_ok-name-in-len1-up.ensures in
    on_ok_weaker c.more_names.result (λ e. e ∙ whole) c.more_names.ensures
