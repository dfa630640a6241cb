-- When a row of bits over a lasso holds exactly where a predicate of positions does.
use Rattle.std.specs.Prelude.{◌≡◌, ℕ, ◌↔◌, List, length}
use Rattle.temporal_logic.specs.declared.lasso.Lasso.{Lasso}
use Rattle.lasso_checker.specs.declared.layout.Layout.{Layout}
use Rattle.lasso_checker.specs.Places.{RowAt}

-- the layout of the rows over a lasso
pub record IsLayoutOf (layout : Layout) (lasso : Lasso) : Type 0 where
  pub start : layout.start ≡ length lasso.prefix.items
  pub turn : layout.turn ≡ length lasso.cycle.items

-- where the row that begins at the word base holds
abbrev pub Row : Layout → List ℕ → ℕ → ℕ → Type 0
Row layout table base i = RowAt table base layout.start layout.turn i

-- the row that begins at the word base holds exactly where P does
abbrev pub IsRowOf : Layout → List ℕ → ℕ → (ℕ → Type 0) → Type 0
IsRowOf layout table base P = (i : ℕ) → Row layout table base i ↔ P i
