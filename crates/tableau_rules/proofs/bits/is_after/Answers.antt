use Rattle.std.proofs.Common.{arith, ◌*◌, inl, inr, sym, true≢false}
use Rattle.std.proofs.lemmas.Bool.{cases_lt}
use Rattle.tableau_rules.proofs.WordChanges.{after_same, after_back}
use Rattle.tableau_rules.proofs.bits.is_after.Goals as goal

pub returns-then-word_at-word_after : goal.returns-then-word_at-word_after
returns-then-word_at-word_after c = (
  λ h. absurd (true≢false (sym h)),
  λ all. absurd (c.if-word_at-word_after.true
      (after_back c.args.new.now c.args.old.now c.loop-at.at c.word_at.result c.word_at-in-loop-at.result c.word_after.result c.args.gone c.args.first c.args.second
      c.word_at.ensures c.word_at-in-loop-at.ensures c.word_after.ensures (omega arith) (omega arith) all)),
)

pub loop-at-preserved : goal.loop-at-preserved
loop-at-preserved c = λ z l. elim (cases_lt z (64 * c.loop-at.at)) [
  | inl m ↦ c.loop-at.invariant z m
  | inr g ↦
      after_same c.args.new.now c.args.old.now c.loop-at.at c.word_at.result c.word_at-in-loop-at.result c.word_after.result c.args.gone c.args.first c.args.second
      c.word_at.ensures c.word_at-in-loop-at.ensures c.word_after.ensures c.if-word_at-word_after.false z g (omega arith)
]
