-- When a state is one of a space: as many values as variables, each of its own variable.
use Rattle.std.specs.Prelude.{◌≡◌, ℕ, ◌<◌, List, length, slice_index}

-- as many values as variables, each below its variable's size
abbrev pub ValuesFit : List ℕ → List ℕ → Type 0
ValuesFit sizes values =
    (length values ≡ length sizes) × ((x : ℕ) → x < length sizes → slice_index values x < slice_index sizes x)
