-- What all entities keep: each type has two members or more.
use Rattle.std.proofs.Common.{◌≡◌, ℕ, zero, suc, ◌<◌, ◌≤◌, List, [], ◌∷◌, length, map, get_or, refl, arith}
use Rattle.entity_types.specs.declared.entities.Entities.{Entities}
use Rattle.entity_types.specs.declared.entities.EntityType.{EntityType}
use Rattle.entity_types.specs.Rows.{HasMembers}
use Rattle.entity_types.specs.View.{rows_of}

-- the members of each type
abbrev pub member_lists : List EntityType → List (List (List ℕ))
member_lists types = map (λ (t : EntityType). t.members.items) types

-- how many members each type has
abbrev pub counts : List EntityType → List ℕ
counts types = map (λ (t : EntityType). length t.members.items) types

-- a count is that of the members
pub counts_at : (types : List EntityType) (k : ℕ) → k < length (counts types) → get_or (counts types) k 0 ≡ length (get_or (member_lists types) k [])
counts_at [] k h = absurd (omega (arith, h))
counts_at (t ∷ ts) zero h = refl
counts_at (t ∷ ts) (suc k) h = counts_at ts k (omega (arith, h))

-- a type has a second member
pub two_members : (types : List EntityType) (k : ℕ) → k < length (counts types) → 1 < length (get_or (member_lists types) k [])
two_members [] k h = absurd (omega (arith, h))
two_members (t ∷ ts) zero h = let several : 2 ≤ length t.members.items = t.several in omega (arith, several)
two_members (t ∷ ts) (suc k) h = two_members ts k (omega (arith, h))

-- so no type is empty
pub types_have_members : (entities : Entities) → HasMembers (rows_of entities)
types_have_members entities entity h = omega (arith, counts_at entities.types.items entity h, two_members entities.types.items entity h)
