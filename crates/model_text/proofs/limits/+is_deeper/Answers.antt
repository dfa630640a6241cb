use Rattle.std.proofs.Common.{sym}
use Rattle.model_text.specs.RawView.{raw_tree}
use Rattle.model_text.proofs.LevelCounts.{over_none}
use Rattle.model_text.proofs.limits.+is_deeper.Goals as goal

pub returns-then-levels-eq0 : goal.returns-then-levels-eq0
returns-then-levels-eq0 t c = rw c.if-levels-eq0.true (sym (over_none (raw_tree c.args.formula.now)))
