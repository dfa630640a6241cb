use Rattle.std.specs.List.{All}
use Rattle.std.specs.List.Sorted.{IsStrictlyIncreasing}
use Rattle.std.proofs.Common.{subst, ap, arith, ◌∙◌, ◌<◌, ◌^◌}
use Rattle.tableau_rules.specs.Sets.{least_from}
use Rattle.tableau_rules.proofs.Ascending.{IsAscending, increasing}
use Rattle.tableau_rules.proofs.LeastNumbers.{least_run}
use Rattle.tableau_rules.specs.Words.{numbers_of}
use Rattle.tableau_rules.proofs.NumbersOfWords.{numbers_ascending, numbers_small}
use Rattle.tableau_rules.proofs.bits.Bits.least_from.Goals as goal

pub returns-clause-run : goal.returns-clause-run
returns-clause-run c = least_run c.args.from c.args.self.now c.least_in.result (subst IsAscending c.self.view_is (numbers_ascending c.self.inside.words.items))
    (c.least_in.ensures ∙ ap (least_from c.args.from) (ap numbers_of c.deref.ensures.value ∙ c.self.view_is))

pub returns-clause-ascending : goal.returns-clause-ascending
returns-clause-ascending c = subst IsStrictlyIncreasing c.self.view_is (increasing _ (numbers_ascending c.self.inside.words.items))

pub returns-clause-small : goal.returns-clause-small
returns-clause-small c = subst (All (λ y. y < 2 ^ 16)) c.self.view_is (numbers_small c.self.inside.words.items (omega arith))
