use Rattle.std.proofs.Common.{◌∙◌}
use Rattle.model_text.proofs.LineLaws.{values_listed}
use Rattle.std.proofs.lemmas.Result.{on_ok_weaker}
use Rattle.model_text.proofs.formula_writer.values.Goals as goal

pub returns-in_ok-value-in-len1-up : goal.returns-in_ok-value-in-len1-up
returns-in_ok-value-in-len1-up c =
    let whole = values_listed c.args.line.now c.value.new.line c.args.values.now c.first-item.result c.in-len1-up.len_at_least c.first-item.is c.in_ok-value-in-len1-up.ensures in
    on_ok_weaker c.more_values.result (λ e. e ∙ whole) c.more_values.ensures
