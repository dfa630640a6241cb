use Rattle.std.proofs.Common.{ℕ, ◌≡◌, ◌↔◌, ◌⊎◌, bit_or, subst, sym}
use Rattle.std.specs.Int.{bit_at}
use Rattle.state_space.proofs.BitSets.{with_has, shifted_one}
use Rattle.state_space.proofs.values.Values.with.Goals as goal

pub returns-clause-members : goal.returns-clause-members
returns-clause-members c =
    subst (λ m. (i : ℕ) → (bit_at (bit_or c.args.self.0 m) i ≡ 1) ↔ ((i ≡ c.args.index) ⊎ (bit_at c.args.self.0 i ≡ 1))) (sym (shifted_one c.args.index c.requires)) (with_has c.args.self.0 c.args.index)
