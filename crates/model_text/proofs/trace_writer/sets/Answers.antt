use Rattle.std.proofs.Common.{◌∙◌}
use Rattle.std.proofs.lemmas.Result.{on_ok_weaker}
use Rattle.model_text.proofs.LineLaws.{sets_listed}
use Rattle.model_text.proofs.trace_writer.sets.Goals as goal

pub returns-in_ok-set-in-len1-up : goal.returns-in_ok-set-in-len1-up
returns-in_ok-set-in-len1-up c =
    let whole = sets_listed c.args.line.now c.set.new.line c.args.sets.now c.first-item.result c.in-len1-up.len_at_least c.first-item.is c.in_ok-set-in-len1-up.ensures in
    on_ok_weaker c.more_sets.result (λ e. e ∙ whole) c.more_sets.ensures
