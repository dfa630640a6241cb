-- Entity types and attributes, as far as the truth of a formula asks for them: an attribute is a row of variables, one for each member
-- of its type, in order.
use Rattle.std.specs.Prelude.{ℕ, ◌+◌, ◌*◌, ◌<◌, ◌≤◌, List, length, slice_index}

-- types and attributes by their numbers, from 0; names play no part in truth
pub record Rows : Type 0 where
  -- how many members each type has
  pub counts : List ℕ
  -- the type of each attribute
  pub owners : List ℕ
  -- the variable of each attribute's first member
  pub firsts : List ℕ

-- how many members a type has
abbrev pub count_of : Rows → ℕ → ℕ
count_of rows entity = slice_index rows.counts entity

-- the type of an attribute
abbrev pub owner_of : Rows → ℕ → ℕ
owner_of rows attr = slice_index rows.owners attr

-- the variable of an attribute and a member
abbrev pub variable_of : Rows → (attr member : ℕ) → ℕ
variable_of rows attr member = slice_index rows.firsts attr + member

-- each type has members
abbrev pub HasMembers : Rows → Type 0
HasMembers rows = (entity : ℕ) → entity < length rows.counts → 0 < count_of rows entity

-- each attribute's type is there, its variables are among the first 64, and each attribute before it has two of these or more
pub record IsPlaced (rows : Rows) : Type 0 where
  pub owned : (attr : ℕ) → attr < length rows.owners → owner_of rows attr < length rows.counts
  pub inside : (attr : ℕ) → attr < length rows.owners → slice_index rows.firsts attr + count_of rows (owner_of rows attr) ≤ 64
  pub ordered : (attr : ℕ) → attr < length rows.owners → 2 * attr ≤ slice_index rows.firsts attr
