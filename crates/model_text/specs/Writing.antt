-- The written form: which tokens a formula or a statement is written with, in the grammar's order. Parentheses stand exactly where an
-- operand's rule is weaker than its place asks.
use Rattle.std.specs.Prelude.{ℕ, suc, ℤ, pos, negsuc, Bool, true, false, List, [], ◌∷◌, ◌++◌, flat_map, map, Option, Some, None, decimal, nat_le, if◌then◌else◌}
use Rattle.state_space.specs.declared.keyword.Keyword.{Keyword}
use Rattle.state_space.specs.declared.keyword.Keyword.TheVariants as keywords
use Rattle.state_space.specs.Ranges.{RangeForm, truth_values, named, span}
use Rattle.model_tokens.specs.declared.token.Sign.{Sign}
use Rattle.model_tokens.specs.declared.token.Sign.TheVariants.{Colon, Comma, OpenParenthesis, CloseParenthesis, OpenBrace, CloseBrace, Equal, NotEqual, Below, AtMost, Above, AtLeast, Dots}
use Rattle.model_tokens.specs.declared.token.Further.{Further}
use Rattle.model_tokens.specs.declared.token.Further.TheVariants as furthers
use Rattle.model_text.specs.declared.statement.Role.{Role}
use Rattle.model_text.specs.declared.statement.Role.TheVariants as roles
use Rattle.temporal_logic.specs.Ltl.{Relation, is_same, is_other, is_below, is_at_most, is_above, is_at_least}
use Rattle.model_tokens.specs.Tokens.{TokenForm, keyword, mark, name, number, further}
use Rattle.model_text.specs.RawTrees.{WrittenValue, a_word, a_number, a_truth, an_attribute, RawTree, truth, falsity, bare, compares, among, bare_of, compares_of, among_of, neg, next, eventually, always, eventually_within, always_within, conj, disj, implies, iff, entails, until, unless, release, until_within, unless_within, release_within, for_all, for_some}
use Rattle.model_text.specs.FormulaGrammar.{Level, whole_level, iff_level, implies_level, or_level, and_level, tempo_level, prefix_level, primary_level}
use Rattle.model_text.specs.Statements.{Setting, StatementForm, version, variable, entity_type, attribute, domain, rule, goal, obstacle, refinement, obstruction, conflict, agent, assignment, expectation, operation, requirement, operationalisation, trace}

-- ---- parts

-- decimal, with `-` before it where it is below 0
abbrev pub number_token : ℤ → TokenForm
number_token (pos n) = number false (decimal n)
number_token (negsuc n) = number true (decimal (suc n))

-- the token of a value; of an attribute its name alone, which right_tokens goes on from
abbrev pub value_token : WrittenValue → TokenForm
value_token (a_word x) = name x
value_token (a_number n) = number_token n
value_token (a_truth true) = keyword keywords.True
value_token (a_truth false) = keyword keywords.False
value_token (an_attribute f x) = name f

-- "(" name ")"
abbrev pub argument_tokens : List ℕ → List TokenForm
argument_tokens x = further furthers.OpenArgument ∷ name x ∷ mark CloseParenthesis ∷ []

-- what stands behind a comparison
abbrev pub right_tokens : WrittenValue → List TokenForm
right_tokens (an_attribute f x) = name f ∷ argument_tokens x
right_tokens v = value_token v ∷ []

-- parts with commas between them
abbrev pub separated : List (List TokenForm) → List TokenForm
separated [] = []
separated (ts ∷ []) = ts
separated (ts ∷ us ∷ rest) = ts ++ mark Comma ∷ separated (us ∷ rest)

-- name { "," name }
abbrev pub names_tokens : List (List ℕ) → List TokenForm
names_tokens xs = separated (map (λ x. name x ∷ []) xs)

-- value { "," value }
abbrev pub values_tokens : List WrittenValue → List TokenForm
values_tokens vs = separated (map (λ v. value_token v ∷ []) vs)

-- ---- formulas

-- the sign of a comparison
abbrev pub sign_of : Relation → Sign
sign_of is_same = Equal
sign_of is_other = NotEqual
sign_of is_below = Below
sign_of is_at_most = AtMost
sign_of is_above = Above
sign_of is_at_least = AtLeast

-- how tightly a rule of the grammar binds
abbrev pub tightness : Level → ℕ
tightness whole_level = 0
tightness iff_level = 1
tightness implies_level = 2
tightness or_level = 3
tightness and_level = 4
tightness tempo_level = 5
tightness prefix_level = 6
tightness primary_level = 7

-- what is of a rule, at a place that asks for one
abbrev pub enclosed : (asked own : Level) → List TokenForm → List TokenForm
enclosed asked own ts = if nat_le (tightness asked) (tightness own) then ts else mark OpenParenthesis ∷ ts ++ mark CloseParenthesis ∷ []

-- "within" number
abbrev pub within_tokens : ℕ → List TokenForm
within_tokens d = keyword keywords.Within ∷ number_token (pos d) ∷ []

-- a quantifier, its bound name and its type, before a formula in parentheses
abbrev pub quantified_tokens : Further → (x entity : List ℕ) → List TokenForm → List TokenForm
quantified_tokens quantifier x entity ts = further quantifier ∷ name x ∷ mark Colon ∷ name entity ∷ further furthers.OpenArgument ∷ ts ++ mark CloseParenthesis ∷ []

-- the tokens of a formula at a place that asks for a rule
unfoldable pub formula_tokens : Level → RawTree → List TokenForm
formula_tokens asked truth = keyword keywords.True ∷ []
formula_tokens asked falsity = keyword keywords.False ∷ []
formula_tokens asked (bare x) = name x ∷ []
formula_tokens asked (compares x r v) = name x ∷ mark (sign_of r) ∷ right_tokens v
formula_tokens asked (among x vs) = name x ∷ keyword keywords.In ∷ mark OpenBrace ∷ values_tokens vs ++ mark CloseBrace ∷ []
formula_tokens asked (bare_of f x) = name f ∷ argument_tokens x
formula_tokens asked (compares_of f x r v) = name f ∷ argument_tokens x ++ mark (sign_of r) ∷ right_tokens v
formula_tokens asked (among_of f x vs) = name f ∷ argument_tokens x ++ keyword keywords.In ∷ mark OpenBrace ∷ values_tokens vs ++ mark CloseBrace ∷ []
formula_tokens asked (for_all x e a) = enclosed asked prefix_level (quantified_tokens furthers.All x e (formula_tokens whole_level a))
formula_tokens asked (for_some x e a) = enclosed asked prefix_level (quantified_tokens furthers.Some x e (formula_tokens whole_level a))
formula_tokens asked (neg a) = enclosed asked prefix_level (keyword keywords.Not ∷ formula_tokens prefix_level a)
formula_tokens asked (next a) = enclosed asked prefix_level (keyword keywords.Next ∷ formula_tokens prefix_level a)
formula_tokens asked (eventually a) = enclosed asked prefix_level (keyword keywords.Eventually ∷ formula_tokens prefix_level a)
formula_tokens asked (always a) = enclosed asked prefix_level (keyword keywords.Always ∷ formula_tokens prefix_level a)
formula_tokens asked (eventually_within d a) = enclosed asked prefix_level (keyword keywords.Eventually ∷ within_tokens d ++ formula_tokens prefix_level a)
formula_tokens asked (always_within d a) = enclosed asked prefix_level (keyword keywords.Always ∷ within_tokens d ++ formula_tokens prefix_level a)
formula_tokens asked (conj a b) = enclosed asked and_level (formula_tokens and_level a ++ keyword keywords.And ∷ formula_tokens tempo_level b)
formula_tokens asked (disj a b) = enclosed asked or_level (formula_tokens or_level a ++ keyword keywords.Or ∷ formula_tokens and_level b)
formula_tokens asked (implies a b) = enclosed asked implies_level (formula_tokens or_level a ++ keyword keywords.Implies ∷ formula_tokens implies_level b)
formula_tokens asked (iff a b) = enclosed asked iff_level (formula_tokens implies_level a ++ keyword keywords.Iff ∷ formula_tokens implies_level b)
formula_tokens asked (entails a b) = enclosed asked whole_level (formula_tokens iff_level a ++ keyword keywords.Entails ∷ formula_tokens iff_level b)
formula_tokens asked (until a b) = enclosed asked tempo_level (formula_tokens prefix_level a ++ keyword keywords.Until ∷ formula_tokens prefix_level b)
formula_tokens asked (unless a b) = enclosed asked tempo_level (formula_tokens prefix_level a ++ keyword keywords.Unless ∷ formula_tokens prefix_level b)
formula_tokens asked (release a b) = enclosed asked tempo_level (formula_tokens prefix_level a ++ keyword keywords.Release ∷ formula_tokens prefix_level b)
formula_tokens asked (until_within d a b) = enclosed asked tempo_level (formula_tokens prefix_level a ++ keyword keywords.Until ∷ within_tokens d ++ formula_tokens prefix_level b)
formula_tokens asked (unless_within d a b) = enclosed asked tempo_level (formula_tokens prefix_level a ++ keyword keywords.Unless ∷ within_tokens d ++ formula_tokens prefix_level b)
formula_tokens asked (release_within d a b) = enclosed asked tempo_level (formula_tokens prefix_level a ++ keyword keywords.Release ∷ within_tokens d ++ formula_tokens prefix_level b)

-- the tokens of a formula where no rule is too weak, so without parentheses around it
abbrev pub whole_tokens : RawTree → List TokenForm
whole_tokens = formula_tokens whole_level

-- ---- statements

-- "bool" | "{" names "}" | number ".." number
abbrev pub range_tokens : RangeForm → List TokenForm
range_tokens truth_values = keyword keywords.Bool ∷ []
range_tokens (named xs) = mark OpenBrace ∷ names_tokens xs ++ mark CloseBrace ∷ []
range_tokens (span low high) = number_token low ∷ mark Dots ∷ number_token high ∷ []

-- names behind a keyword, where there are some
abbrev pub part_tokens : Keyword → List (List ℕ) → List TokenForm
part_tokens word [] = []
part_tokens word (x ∷ xs) = keyword word ∷ names_tokens (x ∷ xs)

-- [ "using" name ]
abbrev pub pattern_tokens : Option (List ℕ) → List TokenForm
pattern_tokens None = []
pattern_tokens (Some x) = keyword keywords.Using ∷ name x ∷ []

-- [ "exact" ]
abbrev pub exact_tokens : Bool → List TokenForm
exact_tokens false = []
exact_tokens true = keyword keywords.Exact ∷ []

-- "pre" | "trig" | "post"
abbrev pub role_token : Role → TokenForm
role_token roles.Pre = keyword keywords.Pre
role_token roles.Trig = keyword keywords.Trig
role_token roles.Post = keyword keywords.Post

-- name "=" value
abbrev pub set_tokens : Setting → List TokenForm
set_tokens s = name s.variable ∷ mark Equal ∷ value_token s.value ∷ []

-- "{" [ set { "," set } ] "}"
abbrev pub state_tokens : List Setting → List TokenForm
state_tokens sets = mark OpenBrace ∷ separated (map set_tokens sets) ++ mark CloseBrace ∷ []

-- the tokens of a statement before its semicolon
unfoldable pub statement_tokens : StatementForm → List TokenForm
statement_tokens (version n) = keyword keywords.Kaos ∷ number_token (pos n) ∷ []
statement_tokens (variable x range) = keyword keywords.Var ∷ name x ∷ mark Colon ∷ range_tokens range
statement_tokens (entity_type x xs) = further furthers.Entity ∷ name x ∷ mark Colon ∷ mark OpenBrace ∷ names_tokens xs ++ mark CloseBrace ∷ []
statement_tokens (attribute x e range) = further furthers.Attr ∷ name x ∷ keyword keywords.Of ∷ name e ∷ mark Colon ∷ range_tokens range
statement_tokens (domain x body) = keyword keywords.Domain ∷ name x ∷ mark Colon ∷ whole_tokens body
statement_tokens (rule x cause effect) = keyword keywords.Rule ∷ name x ∷ mark Colon ∷ formula_tokens iff_level cause ++ keyword keywords.Entails ∷ formula_tokens iff_level effect
statement_tokens (goal x body) = keyword keywords.Goal ∷ name x ∷ mark Colon ∷ whole_tokens body
statement_tokens (obstacle x body) = keyword keywords.Obstacle ∷ name x ∷ mark Colon ∷ whole_tokens body
statement_tokens (refinement x xs pattern) = keyword keywords.Refine ∷ name x ∷ keyword keywords.By ∷ names_tokens xs ++ pattern_tokens pattern
statement_tokens (obstruction x xs) = keyword keywords.Obstruct ∷ name x ∷ keyword keywords.By ∷ names_tokens xs
statement_tokens (conflict x xs boundary) = keyword keywords.Conflict ∷ name x ∷ mark Colon ∷ names_tokens xs ++ keyword keywords.Boundary ∷ whole_tokens boundary
statement_tokens (agent x monitored controlled) = keyword keywords.Agent ∷ name x ∷ part_tokens keywords.Monitors monitored ++ part_tokens keywords.Controls controlled
statement_tokens (assignment x y) = keyword keywords.Assign ∷ name x ∷ keyword keywords.To ∷ name y ∷ []
statement_tokens (expectation x y) = keyword keywords.Expect ∷ name x ∷ keyword keywords.Of ∷ name y ∷ []
statement_tokens (operation x y dompre dompost) =
    keyword keywords.Operation ∷ name x ∷ keyword keywords.By ∷ name y ∷ keyword keywords.Dompre ∷ whole_tokens dompre ++ keyword keywords.Dompost ∷ whole_tokens dompost
statement_tokens (requirement x y role formula) = keyword keywords.Require ∷ name x ∷ keyword keywords.On ∷ name y ∷ role_token role ∷ whole_tokens formula
statement_tokens (operationalisation x xs exact) = keyword keywords.Operationalise ∷ name x ∷ keyword keywords.By ∷ names_tokens xs ++ exact_tokens exact
statement_tokens (trace x prefix cycle) = keyword keywords.Trace ∷ name x ∷ mark Colon ∷ flat_map state_tokens prefix ++ keyword keywords.Loop ∷ flat_map state_tokens cycle
