-- The variables of an attribute: one for each member of its type, in member order, each of the attribute's name, a `_` and the member's.
use Rattle.std.specs.Prelude.{◌≡◌, ℕ, ◌<◌, List, [], ◌∷◌, ◌++◌, length, map, Option, Some, slice_get, slice_index_or, Bool, position, bytes_eq, nat_lt}
use Rattle.std.specs.List.{list_any}
use Rattle.entity_types.specs.declared.entities.Entities.{Entities}
use Rattle.entity_types.specs.Rows.{owner_of, variable_of}
use Rattle.entity_types.specs.View.{member_names, attribute_names, rows_of}

-- `ATTRIBUTE_MEMBER`: 95 is `_`
abbrev pub joined_name : (attr member : List ℕ) → List ℕ
joined_name attr member = attr ++ 95 ∷ member

-- the names of the variables of an attribute, in member order
abbrev pub joined_names : (attr : List ℕ) → List (List ℕ) → List (List ℕ)
joined_names attr members = map (joined_name attr) members

-- the names of a type's members
abbrev pub members_of : Entities → ℕ → List (List ℕ)
members_of entities entity = slice_index_or (member_names entities) entity []

-- more bytes than a name can have
abbrev pub is_long : List ℕ → Bool
is_long name = nat_lt 40 (length name)

-- the first of the joined names that stands among names
abbrev pub first_taken : List (List ℕ) → List (List ℕ) → Option ℕ
first_taken names joined = position (λ j. list_any (bytes_eq j) names) joined

-- the variables of all attributes that are there stand among these names, each under its joined name
abbrev pub AreAmong : Entities → List (List ℕ) → Type 0
AreAmong entities names =
    (attr member : ℕ) (m : List ℕ) → attr < length (attribute_names entities) → slice_get (members_of entities (owner_of (rows_of entities) attr)) member ≡ Some m
    → slice_get names (variable_of (rows_of entities) attr member) ≡ Some (joined_name (slice_index_or (attribute_names entities) attr []) m)
