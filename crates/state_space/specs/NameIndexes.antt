-- The index of a list of names: what is found by it.
use Rattle.std.specs.Prelude.{◌≡◌, ℕ, List, map, position, bytes_eq}
use Rattle.std.specs.Coded.{Π_prop, Coded-set, coded_ℕ, coded_option}
use Rattle.std.specs.Map.{lookup}
use Rattle.state_space.specs.declared.name_index.NameIndex.{NameIndex}

-- the names that are found, each with its place
abbrev pub found_in : NameIndex → List (List ℕ × ℕ)
found_in index = map (λ e. (e.0.items, e.1)) index.places.entries

-- each name is found at its first place in a list of names, and no other name is found
abbrev pub IsIndex : NameIndex → List (List ℕ) → Type 0
IsIndex index names = (x : List ℕ) → lookup (λ n. bytes_eq n x) (found_in index) ≡ position (λ n. bytes_eq n x) names

-- any two proofs of that are the same
pub IsIndex-prop : (index : NameIndex) (names : List (List ℕ)) → IsProp (IsIndex index names)
IsIndex-prop index names = Π_prop (λ x. Coded-set (coded_option coded_ℕ) (lookup (λ n. bytes_eq n x) (found_in index)) (position (λ n. bytes_eq n x) names))
