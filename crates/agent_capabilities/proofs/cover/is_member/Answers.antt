use Rattle.std.proofs.Common.{◌≡◌, ◌∙◌, sym, arith}
use Rattle.std.specs.Int.{bit_at}
use Rattle.std.proofs.lemmas.Bool.{le-ltb, ne_eqb}
use Rattle.std.proofs.lemmas.Nat.Bits.{bit_at_above}
use Rattle.agent_capabilities.proofs.cover.is_member.Goals as goal

pub returns-else-x-lt64 : goal.returns-else-x-lt64
returns-else-x-lt64 c =
    let none : bit_at c.args.set c.args.x ≡ 0 = bit_at_above c.args.set 64 c.args.x c.ranges.set.fits c.if-x-lt64.false in
    le-ltb c.args.x 64 c.if-x-lt64.false ∙ sym (ne_eqb (bit_at c.args.set c.args.x) 1 (λ e. omega (arith, none, e)))
