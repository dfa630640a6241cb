use Rattle.std.specs.Int.{bit_at}
use Rattle.std.specs.Int.RustNames.{bit_or}
use Rattle.std.proofs.Common.{ℕ, Option, subst, sym, ◌≡◌, ◌==◌, ◌||◌, ◌+◌, ◌*◌, ◌%◌, ◌^◌}
use Rattle.tableau_rules.specs.Words.{is_given}
use Rattle.tableau_rules.proofs.OneWord.{with_bit}
use Rattle.tableau_rules.proofs.bits.word_with.Goals as goal

pub returns-then-from-at : goal.returns-then-from-at
returns-then-from-at c = λ k l. subst (λ (o : Option ℕ). (bit_at (bit_or c.args.word (1 * 2 ^ (c.in-Some.number % 64) % 2 ^ 64)) k == 1) ≡ (is_given o (64 * c.args.at + k) || (bit_at c.args.word k == 1)))
    (sym c.in-Some.is) (with_bit c.args.word c.in-Some.number c.args.at c.from.result k c.from.ensures c.if-from-at.true l)
