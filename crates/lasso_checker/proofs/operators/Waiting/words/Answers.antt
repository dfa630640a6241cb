use Rattle.std.proofs.Common.{⊎_elim}
use Rattle.lasso_checker.proofs.Bitwise.{either_word, both_word}
use Rattle.lasso_checker.proofs.operators.Waiting.words.Goals as goal

pub returns-in-Until : goal.returns-in-Until
returns-in-Until c =
    ⊎_elim (λ e. record { bits = λ r l. rw e (either_word c.args.one c.args.other c.args.next r) }) (λ e. record { bits = λ r l. rw e (either_word c.args.one c.args.other c.args.next r) }) c.in-Until.is

pub returns-in-Release : goal.returns-in-Release
returns-in-Release c = record { bits = λ r l. rw c.in-Release.is (both_word c.args.one c.args.other c.args.next r) }
