-- What stands in a formula for a variable: a variable's name, or an attribute's name and behind it, in brackets, a member's or a bound name.
use Rattle.std.specs.Prelude.{ℕ, List, [], Option, Some, None, Ok, ◌==◌, if◌then◌else◌, slice_index, slice_index_or, map}
use Rattle.state_space.specs.Ranges.{RangeForm}
use Rattle.entity_types.specs.Rows.{owner_of}
use Rattle.entity_types.specs.WrittenTrees.{TermForm, plain, of_member, of_bound}
use Rattle.goal_model.specs.declared.refusal.RefusalKind.TheVariants.{UnknownName, WrongKind}
use Rattle.goal_model.specs.declared.namespace.Kind.TheVariants.{Attribute}
use Rattle.goal_model.specs.Names.{place_of}
use Rattle.goal_model.specs.Refusals.{Resolved, and_then, refused, wanted}
use Rattle.goal_model.specs.Scopes.{ScopeForm, rows_in, range_at, used, level_of}

-- the entity type of an attribute
abbrev pub entity_of : ScopeForm → ℕ → ℕ
entity_of s a = owner_of (rows_in s) a

-- the names of the members of an entity type
abbrev pub members_at : ScopeForm → ℕ → List (List ℕ)
members_at s entity = slice_index_or s.members entity []

-- the entity type that the name of a level stands for
abbrev pub bound_type : ScopeForm → ℕ → ℕ
bound_type s level = slice_index (map (λ b. b.entity) s.bound) level

-- the name in brackets behind an attribute: a bound name of the attribute's type, or else a member of it
abbrev pub bracketed : ScopeForm → (attribute : ℕ) → List ℕ → Option ℕ → Resolved TermForm
bracketed s a y (Some level) = if bound_type s level == entity_of s a then Ok (of_bound a level) else refused WrongKind y
bracketed s a y None = and_then (wanted (place_of y (members_at s (entity_of s a))) UnknownName y) (λ m. Ok (of_member a m))

-- an attribute with a name in brackets; the attribute is looked at first
abbrev pub term_in : ScopeForm → (f y : List ℕ) → Resolved TermForm
term_in s f y = and_then (used s Attribute f) (λ a. bracketed s a y (level_of s y))

-- the variable of a term, or of the first member where it is an attribute's: all variables of an attribute have one range
abbrev pub first_of : ScopeForm → TermForm → ℕ
first_of s (plain x) = x
first_of s (of_member a m) = slice_index (rows_in s).firsts a
first_of s (of_bound a level) = slice_index (rows_in s).firsts a

-- the range of a term
abbrev pub range_of : ScopeForm → TermForm → RangeForm
range_of s t = range_at s (first_of s t)
