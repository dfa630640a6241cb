-- Lists of variables, where an attribute's name stands for all its variables.
use Rattle.std.specs.Prelude.{ℕ, ◌+◌, List, [], ◌∷◌, ◌++◌, Bool, not, Option, Some, None, Ok, ◌==◌, if◌then◌else◌, slice_index}
use Rattle.std.specs.List.{list_any}
use Rattle.goal_model.specs.declared.refusal.RefusalKind.TheVariants.{DuplicateName, UnknownName, WrongKind}
use Rattle.goal_model.specs.declared.namespace.Kind.TheVariants.{Attribute}
use Rattle.goal_model.specs.Refusals.{Resolved, and_then, holds, refused}
use Rattle.goal_model.specs.Scopes.{number_of, ScopeForm, rows_in, Meaning, a_variable, another, meaning_of}
use Rattle.goal_model.specs.Terms.{entity_of, members_at}

-- as many numbers as there are names, one after the other from this one on
abbrev pub numbers_from : ℕ → List (List ℕ) → List ℕ
numbers_from k [] = []
numbers_from k (x ∷ xs) = k ∷ numbers_from (k + 1) xs

-- the variables of an attribute, in the order of the members
abbrev pub row_of : ScopeForm → ℕ → List ℕ
row_of s a = numbers_from (slice_index (rows_in s).firsts a) (members_at s (entity_of s a))

-- the variables that a name stands for
abbrev pub as_row : ScopeForm → List ℕ → Option Meaning → Resolved (List ℕ)
as_row s x None = refused UnknownName x
as_row s x (Some (a_variable k)) = Ok (k ∷ [])
as_row s x (Some (another kind place)) = if number_of kind == number_of Attribute then Ok (row_of s place) else refused WrongKind x

abbrev pub row_in : ScopeForm → List ℕ → Resolved (List ℕ)
row_in s x = as_row s x (meaning_of s x)

-- whether two lists have a number in common
abbrev pub do_meet : List ℕ → List ℕ → Bool
do_meet xs ys = list_any (λ x. list_any (λ y. y == x) ys) xs

-- the variables of a list of names, behind those of the names before it; no variable may come twice
unfoldable pub variables_from : ScopeForm → List ℕ → List (List ℕ) → Resolved (List ℕ)
variables_from s front [] = Ok front
variables_from s front (x ∷ xs) = and_then (row_in s x) (λ row. and_then (holds (not (do_meet row front)) DuplicateName x) (λ _. variables_from s (front ++ row) xs))

abbrev pub variables_in : ScopeForm → List (List ℕ) → Resolved (List ℕ)
variables_in s xs = variables_from s [] xs
