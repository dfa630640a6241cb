-- How a lasso is written: a line with its lengths, and a line for each state.
use Rattle.std.specs.Prelude.{ℕ, List, [], ◌∷◌, ◌++◌, length, codes, decimal}
use Rattle.std.specs.List.{flat_map}
use Rattle.state_space.specs.Ranges.{RangeForm}
use Rattle.state_space.specs.ValueTexts.{value_text}
use Rattle.temporal_logic.specs.Rows.{rows}
use Rattle.temporal_logic.specs.declared.lasso.Lasso.{Lasso}

-- ` NAME=VALUE`
unfoldable pub setting_text : List ℕ → RangeForm → ℕ → List ℕ
setting_text x range v = codes " " ++ x ++ codes "=" ++ value_text range v

-- ` NAME=VALUE` of each variable, in order
abbrev pub values_text : List (List ℕ) → List RangeForm → List ℕ → List ℕ
values_text (x ∷ xs) (range ∷ ranges) (v ∷ vs) = setting_text x range v ++ values_text xs ranges vs
values_text _ _ _ = []

-- `  state NAME=VALUE NAME=VALUE`, and a line feed
abbrev pub state_text : List (List ℕ) → List RangeForm → List ℕ → List ℕ
state_text names ranges values = codes "  state" ++ values_text names ranges values ++ codes "\n"

-- the lengths of prefix and loop, and a line for each state
abbrev pub lasso_text : List (List ℕ) → List RangeForm → Lasso → List ℕ
lasso_text names ranges l =
    codes "  lasso " ++ decimal (length l.prefix.items) ++ codes " " ++ decimal (length l.cycle.items) ++ codes "\n"
    ++ flat_map (state_text names ranges) (rows l.prefix.items) ++ flat_map (state_text names ranges) (rows l.cycle.items)
