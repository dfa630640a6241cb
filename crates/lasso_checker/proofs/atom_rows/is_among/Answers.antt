use Rattle.std.proofs.Common.{◌^◌, ◌<◌, arith, sym, ◌∙◌}
use Rattle.std.proofs.lemmas.Bool.{false≢true, le-ltb}
use Rattle.std.proofs.lemmas.Nat.Bits.{bit_at_above}
use Rattle.lasso_checker.proofs.atom_rows.is_among.Goals as goal
use Rattle.state_space.proofs.BitSets.{not_one_from_zero}

pub returns-else-index-lt64 : goal.returns-else-index-lt64
returns-else-index-lt64 c =
    let small : c.args.set.0 < 2 ^ 64 = omega arith in
    record { among = (λ t. absurd (false≢true (sym (le-ltb c.args.index 64 (omega arith)) ∙ t)), λ h. absurd (not_one_from_zero _ (bit_at_above c.args.set.0 64 c.args.index small (omega arith)) h)) }
