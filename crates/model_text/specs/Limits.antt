-- The limits of a text, over its tokens and over the statements that they spell.
use Rattle.std.specs.Prelude.{ℕ, ◌+◌, max, Bool, true, false, ◌||◌, not, List, [], ◌∷◌, length, count_by, nat_le, nat_lt, Option, Some, None, if◌then◌else◌}
use Rattle.std.specs.List.{list_all, list_any}
use Rattle.state_space.specs.declared.keyword.Keyword.TheVariants as keywords
use Rattle.model_tokens.specs.declared.token.Sign.TheVariants.{Semicolon, OpenParenthesis}
use Rattle.model_tokens.specs.declared.token.Further.TheVariants as furthers
use Rattle.model_text.specs.declared.limits.LimitKind.{LimitKind}
use Rattle.model_text.specs.declared.limits.LimitKind.TheVariants.{Statements, Links, Parts, NameLength, Number, Bound, Depth}
use Rattle.model_tokens.specs.Tokens.{TokenForm, keyword, mark, name, number, further}
use Rattle.model_tokens.specs.Values.{magnitude}
use Rattle.model_text.specs.RawTrees.{RawTree, neg, next, eventually, always, eventually_within, always_within, conj, disj, implies, iff, entails, until, unless, release, until_within, unless_within, release_within, for_all, for_some}
use Rattle.model_text.specs.Statements.{StatementForm, domain, rule, goal, obstacle, refinement, obstruction, conflict, assignment, operation, requirement, operationalisation}

-- an operator, a quantifier or an open parenthesis
abbrev pub is_operator : TokenForm → Bool
is_operator (mark OpenParenthesis) = true
is_operator (keyword keywords.Entails) = true
is_operator (keyword keywords.Iff) = true
is_operator (keyword keywords.Implies) = true
is_operator (keyword keywords.Or) = true
is_operator (keyword keywords.And) = true
is_operator (keyword keywords.Until) = true
is_operator (keyword keywords.Unless) = true
is_operator (keyword keywords.Release) = true
is_operator (keyword keywords.Not) = true
is_operator (keyword keywords.Next) = true
is_operator (keyword keywords.Eventually) = true
is_operator (keyword keywords.Always) = true
is_operator (further furthers.All) = true
is_operator (further furthers.Some) = true
is_operator (further furthers.OpenArgument) = true
is_operator _ = false

-- the end of a statement
abbrev pub is_semicolon : TokenForm → Bool
is_semicolon (mark Semicolon) = true
is_semicolon _ = false

-- the greatest number of operators between two semicolons or ends of the text, where some stand already
unfoldable pub most_operators : ℕ → List TokenForm → ℕ
most_operators count [] = count
most_operators count (t ∷ ts) =
    if is_semicolon t then max count (most_operators 0 ts) else
    if is_operator t then most_operators (count + 1) ts else
    most_operators count ts

-- a name of at most 40 bytes, or no name
abbrev pub is_short : TokenForm → Bool
is_short (name x) = nat_le (length x) 40
is_short _ = true

-- a number of a magnitude of at most 1,000,000,000, or no number
abbrev pub is_small : TokenForm → Bool
is_small (number negative digits) = nat_le (magnitude digits) 1000000000
is_small _ = true

-- a link: a statement of these five forms
abbrev pub is_link : StatementForm → Bool
is_link (refinement x xs pattern) = true
is_link (obstruction x xs) = true
is_link (conflict x xs boundary) = true
is_link (operationalisation x xs exact) = true
is_link (assignment x y) = true
is_link _ = false

-- how many names stand behind the `by` of a link, or goals in a conflict
abbrev pub parts_of : StatementForm → ℕ
parts_of (refinement x xs pattern) = length xs
parts_of (obstruction x xs) = length xs
parts_of (conflict x xs boundary) = length xs
parts_of (operationalisation x xs exact) = length xs
parts_of _ = 0

-- more than 16 subgoals, obstacles, goals or requirements
abbrev pub has_many_parts : StatementForm → Bool
has_many_parts s = nat_lt 16 (parts_of s)

-- the formulas of a statement; a rule has two, the sides of its `entails`
abbrev pub formulas_of : StatementForm → List RawTree
formulas_of (domain x body) = body ∷ []
formulas_of (rule x cause effect) = cause ∷ effect ∷ []
formulas_of (goal x body) = body ∷ []
formulas_of (obstacle x body) = body ∷ []
formulas_of (conflict x xs boundary) = boundary ∷ []
formulas_of (operation x y dompre dompost) = dompre ∷ dompost ∷ []
formulas_of (requirement x y role formula) = formula ∷ []
formulas_of _ = []

-- a bound over 100; one below 0 counts as such
abbrev pub is_wide : ℕ → Bool
is_wide d = nat_lt 100 d

-- whether a bound of the formula is wide
abbrev pub has_wide_bound : RawTree → Bool
has_wide_bound (neg a) = has_wide_bound a
has_wide_bound (next a) = has_wide_bound a
has_wide_bound (eventually a) = has_wide_bound a
has_wide_bound (always a) = has_wide_bound a
has_wide_bound (eventually_within d a) = is_wide d || has_wide_bound a
has_wide_bound (always_within d a) = is_wide d || has_wide_bound a
has_wide_bound (conj a b) = has_wide_bound a || has_wide_bound b
has_wide_bound (disj a b) = has_wide_bound a || has_wide_bound b
has_wide_bound (implies a b) = has_wide_bound a || has_wide_bound b
has_wide_bound (iff a b) = has_wide_bound a || has_wide_bound b
has_wide_bound (entails a b) = has_wide_bound a || has_wide_bound b
has_wide_bound (until a b) = has_wide_bound a || has_wide_bound b
has_wide_bound (unless a b) = has_wide_bound a || has_wide_bound b
has_wide_bound (release a b) = has_wide_bound a || has_wide_bound b
has_wide_bound (until_within d a b) = is_wide d || (has_wide_bound a || has_wide_bound b)
has_wide_bound (unless_within d a b) = is_wide d || (has_wide_bound a || has_wide_bound b)
has_wide_bound (release_within d a b) = is_wide d || (has_wide_bound a || has_wide_bound b)
has_wide_bound (for_all x e a) = has_wide_bound a
has_wide_bound (for_some x e a) = has_wide_bound a
has_wide_bound _ = false

-- the number of levels of a formula; parentheses make none
abbrev pub depth_of : RawTree → ℕ
depth_of (neg a) = 1 + depth_of a
depth_of (next a) = 1 + depth_of a
depth_of (eventually a) = 1 + depth_of a
depth_of (always a) = 1 + depth_of a
depth_of (eventually_within d a) = 1 + depth_of a
depth_of (always_within d a) = 1 + depth_of a
depth_of (conj a b) = 1 + max (depth_of a) (depth_of b)
depth_of (disj a b) = 1 + max (depth_of a) (depth_of b)
depth_of (implies a b) = 1 + max (depth_of a) (depth_of b)
depth_of (iff a b) = 1 + max (depth_of a) (depth_of b)
depth_of (entails a b) = 1 + max (depth_of a) (depth_of b)
depth_of (until a b) = 1 + max (depth_of a) (depth_of b)
depth_of (unless a b) = 1 + max (depth_of a) (depth_of b)
depth_of (release a b) = 1 + max (depth_of a) (depth_of b)
depth_of (until_within d a b) = 1 + max (depth_of a) (depth_of b)
depth_of (unless_within d a b) = 1 + max (depth_of a) (depth_of b)
depth_of (release_within d a b) = 1 + max (depth_of a) (depth_of b)
depth_of (for_all x e a) = 1 + depth_of a
depth_of (for_some x e a) = 1 + depth_of a
depth_of _ = 1

-- a formula of more than 100 levels
abbrev pub is_deep : RawTree → Bool
is_deep f = nat_lt 100 (depth_of f)

-- whether a formula of the statement is so
abbrev pub has_formula : (RawTree → Bool) → StatementForm → Bool
has_formula is s = list_any is (formulas_of s)

-- the first limit that a text passes, in the order in which the limits are answered
abbrev pub passed_limit : List TokenForm → List StatementForm → Option LimitKind
passed_limit ts ss =
    if nat_lt 2000 (length ss) then Some Statements else
    if nat_lt 512 (count_by is_link ss) then Some Links else
    if list_any has_many_parts ss then Some Parts else
    if not (list_all is_short ts) then Some NameLength else
    if not (list_all is_small ts) then Some Number else
    if list_any (has_formula has_wide_bound) ss then Some Bound else
    if list_any (has_formula is_deep) ss then Some Depth else
    None
