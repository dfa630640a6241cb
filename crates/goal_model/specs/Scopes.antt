-- The one namespace: what each declared name is. Variables are numbered in the order of their statements; every other name has a kind and a
-- place in the model's list of that kind. The names that quantifiers bind, and the members of entity types, stand apart from it.
use Rattle.std.specs.Prelude.{ℕ, List, [], ◌∷◌, ◌++◌, length, map, find, position, not, ◌||◌, bytes_eq, Option, Some, None, Ok, is_some, ◌==◌, slice_index_or, if◌then◌else◌}
use Rattle.state_space.specs.Ranges.{RangeForm, truth_values}
use Rattle.state_space.specs.Spaces as spaces
use Rattle.entity_types.specs.Rows.{Rows}
use Rattle.entity_types.specs.View.{AttributeForm, member_names, attributes as attributes_of}
use Rattle.goal_model.specs.declared.refusal.RefusalKind.TheVariants.{DuplicateName, UnknownName, WrongKind}
use Rattle.goal_model.specs.declared.namespace.Kind.{Kind}
use Rattle.goal_model.specs.declared.namespace.Kind.TheVariants.{Property, Goal, Obstacle, Agent, Operation, Requirement, Conflict, Trace, EntityType, Attribute}
use Rattle.goal_model.specs.declared.namespace.Declared.{Declared}
use Rattle.goal_model.specs.declared.namespace.Bound.{Bound}
use Rattle.goal_model.specs.declared.namespace.Scope.{Scope}
use Rattle.goal_model.specs.Names.{place_of, is_among}
use Rattle.goal_model.specs.Refusals.{Resolved, and_then, refused, holds}

-- the place of a kind among them, by which two are told apart
abbrev pub number_of : Kind → ℕ
number_of Property = 0
number_of Goal = 1
number_of Obstacle = 2
number_of Agent = 3
number_of Operation = 4
number_of Requirement = 5
number_of Conflict = 6
number_of Trace = 7
number_of EntityType = 8
number_of Attribute = 9

-- the variables by name and range, the members of each entity type, the attributes, the declared names that are no variable's, and the names
-- that the quantifiers around bind, the outermost first
pub record ScopeForm : Type 0 where
  pub names : List (List ℕ)
  pub ranges : List RangeForm
  pub members : List (List (List ℕ))
  pub attributes : List AttributeForm
  pub others : List Declared
  pub bound : List Bound

-- types and attributes without their names
abbrev pub rows_from : List (List (List ℕ)) → List AttributeForm → Rows
rows_from members attributes = record { counts = map length members; owners = map (λ a. a.entity) attributes; firsts = map (λ a. a.first) attributes }

abbrev pub rows_in : ScopeForm → Rows
rows_in s = rows_from s.members s.attributes

-- the range of a variable
abbrev pub range_at : ScopeForm → ℕ → RangeForm
range_at s x = slice_index_or s.ranges x truth_values

-- what a name is: a variable, or another declared name
pub data Meaning : Type 0 where
  a_variable : (x : ℕ) → Meaning
  another : (kind : Kind) (place : ℕ) → Meaning

abbrev pub either_of : Option ℕ → Option Declared → Option Meaning
either_of (Some x) other = Some (a_variable x)
either_of None (Some d) = Some (another d.kind d.place)
either_of None None = None

abbrev pub meaning_of : ScopeForm → List ℕ → Option Meaning
meaning_of s x = either_of (place_of x s.names) (find (λ d. bytes_eq d.name x) s.others)

-- a name that is declared: it has to be new
abbrev pub fresh : ScopeForm → List ℕ → Resolved (Unit {0})
fresh s x = holds (not (is_some (meaning_of s x))) DuplicateName x

-- a name that is used has to be declared, and a variable's or of the kind that is asked for
abbrev pub as_variable : List ℕ → Option Meaning → Resolved ℕ
as_variable x None = refused UnknownName x
as_variable x (Some (a_variable k)) = Ok k
as_variable x (Some (another kind place)) = refused WrongKind x

abbrev pub as_kind : Kind → List ℕ → Option Meaning → Resolved ℕ
as_kind kind x None = refused UnknownName x
as_kind kind x (Some (a_variable k)) = refused WrongKind x
as_kind kind x (Some (another found place)) = if number_of found == number_of kind then Ok place else refused WrongKind x

abbrev pub variable_in : ScopeForm → List ℕ → Resolved ℕ
variable_in s x = as_variable x (meaning_of s x)

abbrev pub used : ScopeForm → Kind → List ℕ → Resolved ℕ
used s kind x = as_kind kind x (meaning_of s x)

-- ---- names that quantifiers bind

-- the level of the quantifier that binds a name
abbrev pub level_of : ScopeForm → List ℕ → Option ℕ
level_of s x = position (λ b. bytes_eq b.name x) s.bound

-- a name that a quantifier binds: it is neither declared nor bound further out
abbrev pub fresh_bound : ScopeForm → List ℕ → Resolved (Unit {0})
fresh_bound s x = holds (not (is_some (meaning_of s x) || is_some (level_of s x))) DuplicateName x

-- the scope behind a quantifier
abbrev pub binds : ScopeForm → List ℕ → ℕ → ScopeForm
binds s x entity = record s { bound = s.bound ++ (record { name = x; entity = entity }) ∷ [] }

-- ---- lists of names

-- the names of a list, each looked up, and none of them among those before it: their places behind `places`, where the names `front` stand
-- before the list
unfoldable pub listed_from : (List ℕ → Resolved ℕ) → List (List ℕ) → List ℕ → List (List ℕ) → Resolved (List ℕ)
listed_from place front places [] = Ok places
listed_from place front places (x ∷ xs) = and_then (place x) (λ p. and_then (holds (not (is_among x front)) DuplicateName x) (λ _. listed_from place (front ++ x ∷ []) (places ++ p ∷ []) xs))

abbrev pub listed : (List ℕ → Resolved ℕ) → List (List ℕ) → Resolved (List ℕ)
listed place xs = listed_from place [] [] xs

-- a scope, wherever its parts lie in memory
abbrev pub scope_of : Scope → ScopeForm
scope_of s = record {
  names = spaces.names s.space.now;
  ranges = spaces.ranges s.space.now;
  members = member_names s.entities.now;
  attributes = attributes_of s.entities.now;
  others = s.names.now.entries.items;
  bound = s.bound.now;
}
