use Rattle.std.proofs.Common.{◌+◌, ◌*◌}
use Rattle.std.specs.Prelude.{max}
use Rattle.temporal_logic.proofs.formula.Formula.TheLaws.{the_size}
use Rattle.formula_table.proofs.table.Table.+formulas.Given as goal

abbrev pub decreases-put_operator : goal.decreases-put_operator
decreases-put_operator l = 4 * the_size l.f.now

abbrev pub decreases-put_signed : goal.decreases-put_signed
decreases-put_signed l = 4 * the_size l.f.now + 1

abbrev pub decreases-after_of : goal.decreases-after_of
decreases-after_of l = 4 * the_size l.a.now + 2

abbrev pub decreases-ever_of : goal.decreases-ever_of
decreases-ever_of l = 4 * the_size l.a.now + 2

abbrev pub decreases-steps_of : goal.decreases-steps_of
decreases-steps_of l = 4 * the_size l.a.now + 2

abbrev pub decreases-joined_of : goal.decreases-joined_of
decreases-joined_of l = 4 * max (the_size l.a.now) (the_size l.b.now) + 2

abbrev pub decreases-fixed_of : goal.decreases-fixed_of
decreases-fixed_of l = 4 * max (the_size l.a.now) (the_size l.b.now) + 2

abbrev pub decreases-unless_of : goal.decreases-unless_of
decreases-unless_of l = 4 * max (the_size l.a.now) (the_size l.b.now) + 2

abbrev pub decreases-chain_of : goal.decreases-chain_of
decreases-chain_of l = 4 * max (the_size l.a.now) (the_size l.b.now) + 2

abbrev pub decreases-iff_of : goal.decreases-iff_of
decreases-iff_of l = 4 * max (the_size l.a.now) (the_size l.b.now) + 3

abbrev pub decreases-entails_of : goal.decreases-entails_of
decreases-entails_of l = 4 * max (the_size l.a.now) (the_size l.b.now) + 3

abbrev pub decreases-weak_chain_of : goal.decreases-weak_chain_of
decreases-weak_chain_of l = 4 * max (the_size l.a.now) (the_size l.b.now) + 3
