-- The place of a token of the code, by its number.
use Rattle.std.proofs.Common.{◌≡◌, ℕ, zero, suc, ◌<◌, List, [], ◌∷◌, length, refl, arith}
use Rattle.std.specs.Prelude.{map, slice_index_or}
use Rattle.model_tokens.specs.declared.token.Token as code

-- the place of a token of the code
pub placed_at : (ts : List code.Token) (i end : ℕ) (d : code.Token) → i < length ts → (slice_index_or ts i d).at ≡ slice_index_or (map (λ (t : code.Token). t.at) ts) i end
placed_at [] i end d h = absurd (omega arith)
placed_at (t ∷ ts) zero end d h = refl
placed_at (t ∷ ts) (suc i) end d h = placed_at ts i end d (omega arith)
