use Rattle.std.proofs.Common.{ap, arith}
use Rattle.tableau_rules.specs.Words.{numbers_of}
use Rattle.tableau_rules.proofs.SameWords.{same_words}
use Rattle.tableau_rules.proofs.bits.same_numbers.Goals as goal

pub returns : goal.returns
returns c = (
  λ h. ap numbers_of (c.equal_words.ensures.0 h),
  λ e. c.equal_words.ensures.1 (same_words c.args.a.now c.args.b.now c.requires.a c.requires.b
      (λ k. let f = c.type_inv.a k in omega arith) (λ k. let f = c.type_inv.b k in omega arith) e),
)
