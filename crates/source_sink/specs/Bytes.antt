-- What a read and a write do to the bytes that are left or held, where those are told.
use Rattle.std.specs.Prelude.{◌≡◌, ℕ, ◌≤◌, List, length, take, ⊤, None, Some}
use Rattle.std.specs.declared.option.Option.{Option}
use Rattle.std.specs.Io.KnownBytes.{Consumes, Appends}

-- where the bytes are told, they are these
abbrev pub IsAllOf : Option (List ℕ) → List ℕ → Type 0
IsAllOf None bytes = ⊤
IsAllOf (Some left) bytes = left ≡ bytes

-- this many bytes are taken from the front
abbrev pub TakesMany : Option (List ℕ) → Option (List ℕ) → ℕ → Type 0
TakesMany old new count = (bytes : List ℕ) × (length bytes ≡ count) × Consumes old new bytes

-- a front of these bytes is appended
abbrev pub AppendsFront : Option (List ℕ) → Option (List ℕ) → List ℕ → Type 0
AppendsFront old new bytes = (count : ℕ) × (count ≤ length bytes) × Appends old new (take count bytes)
