-- Rows of bits, one for each position of a prefix and a loop.
use Rattle.std.specs.Prelude.{◌≡◌, ℕ, ◌+◌, ◌-◌, ◌/◌, ◌%◌, ◌<◌, List, slice_index, nat_lt, if◌then◌else◌}
use Rattle.std.specs.Int.{bit_at}

-- the bit at a place of the row that begins at the word base
abbrev pub bit_of : List ℕ → ℕ → ℕ → ℕ
bit_of table base place = bit_at (slice_index table (base + place / 64)) (place % 64)

-- the place of a position, in a row over a prefix of p positions and a loop of c
abbrev pub place_of : ℕ → ℕ → ℕ → ℕ
place_of p c i = (if nat_lt i p then i else p + (i - p) % c)

-- the row holds at a position
abbrev pub RowAt : List ℕ → ℕ → ℕ → ℕ → ℕ → Type 0
RowAt table base p c i = bit_of table base (place_of p c i) ≡ 1

-- each word before the base is as it was
abbrev pub KeepsBelow : ℕ → List ℕ → List ℕ → Type 0
KeepsBelow base old new = (k : ℕ) → k < base → slice_index new k ≡ slice_index old k
