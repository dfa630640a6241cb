-- How the values of a range are written.
use Rattle.std.specs.Prelude.{ℕ, zero, suc, ◌==◌, if◌then◌else◌, List, [], ◌∷◌, ◌++◌, map, slice_index_or, codes, pos, ◌+ℤ◌}
use Rattle.std.specs.List.{flat_map}
use Rattle.std.specs.Fmt.{signed_decimal}
use Rattle.std.specs.Int.{bit_at}
use Rattle.state_space.specs.Ranges.{RangeForm, truth_values, named, span, size_of}

-- `true` or `false`, the name of an enumeration's value, or the number
abbrev pub value_text : RangeForm → ℕ → List ℕ
value_text truth_values i = if i == 1 then codes "true" else codes "false"
value_text (named values) i = slice_index_or values i []
value_text (span low high) i = signed_decimal (low +ℤ pos i)

-- the members of a set among the first indexes, in order
abbrev pub members : ℕ → ℕ → List ℕ
members set zero = []
members set (suc n) = if bit_at set n == 1 then members set n ++ n ∷ [] else members set n

-- texts with a comma between any two
abbrev pub listed : List (List ℕ) → List ℕ
listed [] = []
listed (x ∷ xs) = x ++ flat_map (λ y. codes ", " ++ y) xs

-- `{v, w}`, of a set of values of a range
unfoldable pub set_text : RangeForm → (set : ℕ) → List ℕ
set_text range set = codes "{" ++ listed (map (value_text range) (members set (size_of range))) ++ codes "}"
