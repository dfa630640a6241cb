use Rattle.std.specs.Int.{bit_at, bit_not, w64}
use Rattle.std.proofs.Common.{bit_and, ℕ, Option, subst, sym, not, ◌≡◌, ◌==◌, ◌&&◌, ◌+◌, ◌*◌, ◌%◌, ◌^◌}
use Rattle.tableau_rules.specs.Words.{is_given}
use Rattle.tableau_rules.proofs.OneWord.{without_bit}
use Rattle.tableau_rules.proofs.bits.word_without.Goals as goal

pub returns-then-from-at : goal.returns-then-from-at
returns-then-from-at c = λ k l. subst (λ (o : Option ℕ). (bit_at (bit_and c.args.word (bit_not w64 (1 * 2 ^ (c.in-Some.number % 64) % 2 ^ 64))) k == 1) ≡ (not (is_given o (64 * c.args.at + k)) && (bit_at c.args.word k == 1)))
    (sym c.in-Some.is) (without_bit c.args.word c.in-Some.number c.args.at c.from.result k c.from.ensures c.if-from-at.true l)
