use Rattle.std.proofs.Common.{ap, ◌-◌, ◌^◌, ◌<◌, ◌≡◌, ◌↔◌, ℕ, arith, subst, sym}
use Rattle.std.specs.Prelude.{bit_and}
use Rattle.std.specs.Int.{bit_at}
use Rattle.state_space.proofs.BitSets.{others_has, cut_has, shifted_one, whole_mask}
use Rattle.state_space.proofs.values.Values.complement.Goals as goal

pub returns-then-size-eq64-clause-members : goal.returns-then-size-eq64-clause-members
returns-then-size-eq64-clause-members c =
    let small : c.args.self.0 < 2 ^ 64 = omega arith in
    subst (λ n. (i : ℕ) → (bit_at (2 ^ 64 - 1 - c.args.self.0) i ≡ 1) ↔ ((i < n) × ¬ (bit_at c.args.self.0 i ≡ 1))) (sym c.if-size-eq64.true) (λ i. others_has c.args.self.0 i small)

pub returns-else-size-eq64-clause-members : goal.returns-else-size-eq64-clause-members
returns-else-size-eq64-clause-members c =
    let small : c.args.self.0 < 2 ^ 64 = omega arith in
    let below : c.args.size < 64 = omega arith in
    subst (λ m. (i : ℕ) → (bit_at (bit_and (2 ^ 64 - 1 - c.args.self.0) (m - 1)) i ≡ 1) ↔ ((i < c.args.size) × ¬ (bit_at c.args.self.0 i ≡ 1))) (sym (shifted_one c.args.size below)) (λ i. cut_has c.args.self.0 c.args.size i small c.requires)

pub returns-then-size-eq64-clause-value : goal.returns-then-size-eq64-clause-value
returns-then-size-eq64-clause-value c = subst (λ n. 2 ^ 64 - 1 - c.args.self.0 ≡ bit_and (2 ^ 64 - 1 - c.args.self.0) (2 ^ n - 1)) (sym c.if-size-eq64.true) (whole_mask c.args.self.0)

pub returns-else-size-eq64-clause-value : goal.returns-else-size-eq64-clause-value
returns-else-size-eq64-clause-value c =
    let below : c.args.size < 64 = omega arith in
    ap (λ m. bit_and (2 ^ 64 - 1 - c.args.self.0) (m - 1)) (shifted_one c.args.size below)
