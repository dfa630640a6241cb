-- How statements are read, from left to right.
use Rattle.std.specs.Prelude.{ℕ, zero, suc, ℤ, Bool, true, false, List, [], ◌∷◌, ◌++◌, length, Option, Some, None, Ok, Err, nat_le, if◌then◌else◌}
use Rattle.state_space.specs.declared.keyword.Keyword.{Keyword}
use Rattle.state_space.specs.declared.keyword.Keyword.TheVariants as keywords
use Rattle.state_space.specs.Ranges.{RangeForm, truth_values, named, span}
use Rattle.model_tokens.specs.declared.token.Sign.TheVariants.{Semicolon, Colon, Equal, Dots, OpenBrace, CloseBrace}
use Rattle.model_tokens.specs.declared.token.Further.TheVariants as furthers
use Rattle.model_text.specs.declared.statement.Role.{Role}
use Rattle.model_text.specs.declared.statement.Role.TheVariants as roles
use Rattle.model_tokens.specs.Tokens.{TokenForm, keyword, number, further}
use Rattle.model_tokens.specs.Versions.{version_named}
use Rattle.model_text.specs.declared.raw_formula.RawValue.{RawValue}
use Rattle.model_text.specs.RawTrees.{RawTree}
use Rattle.model_text.specs.RawView.{written}
use Rattle.model_text.specs.FormulaReading.{read_as, iff_at, whole_at, value_at}
use Rattle.model_tokens.specs.Values.{number_value}
use Rattle.model_text.specs.Reading.{and_then, keyword_at, mark_at, name_at}
use Rattle.model_text.specs.Readers.{Reader, after, counted, if_word, if_sign, giving, nowhere, more_at, listed_at}
use Rattle.model_text.specs.Statements.{Setting, StatementForm, version, variable, entity_type, attribute, domain, rule, goal, obstacle, refinement, obstruction, conflict, agent, assignment, expectation, operation, requirement, operationalisation, trace}

-- ---- parts that forms share

-- name { "," name }
abbrev pub names_at : Reader (List (List ℕ))
names_at = listed_at name_at

-- name ":"
unfoldable pub declared_name_at : Reader (List ℕ)
declared_name_at = after name_at (λ x. counted (λ _. x) (mark_at Colon))

-- name keyword name
unfoldable pub pair_at : Keyword → Reader (List ℕ × List ℕ)
pair_at between = after name_at (λ x. after (keyword_at between) (λ _. counted (λ y. (x, y)) name_at))

-- name "by" names
unfoldable pub group_at : Reader (List ℕ × List (List ℕ))
group_at = after name_at (λ x. after (keyword_at keywords.By) (λ _. counted (λ xs. (x, xs)) names_at))

-- [ keyword names ]
unfoldable pub part_at : Keyword → Reader (List (List ℕ))
part_at word = if_word word names_at (giving [])

-- a formula: no construct opens more often than there are tokens
abbrev pub body_at : Reader RawTree
body_at ts = whole_at (length ts) ts

-- a formula without an "entails"
abbrev pub side_at : Reader RawTree
side_at ts = iff_at (length ts) ts

-- a formula behind a keyword
unfoldable pub body_behind : Keyword → Reader RawTree
body_behind word = after (keyword_at word) (λ _. body_at)

-- ---- variables and properties

-- a number, as its value
unfoldable pub number_at : Reader ℤ
number_at (number negative digits ∷ ts) = Ok (number_value negative digits, ts)
number_at ts = Err ts

-- number ".." number
unfoldable pub span_at : Reader RangeForm
span_at = after number_at (λ low. after (mark_at Dots) (λ _. counted (span low) number_at))

-- names "}", behind the "{" of a range
unfoldable pub enumeration_at : Reader RangeForm
enumeration_at = after names_at (λ xs. counted (λ _. named xs) (mark_at CloseBrace))

-- "bool" | "{" names "}" | number ".." number
unfoldable pub range_at : Reader RangeForm
range_at = if_word keywords.Bool (giving truth_values) (if_sign OpenBrace enumeration_at span_at)

-- behind "var": name ":" range
unfoldable pub variable_at : Reader StatementForm
variable_at = after declared_name_at (λ x. counted (variable x) range_at)

-- "{" names "}"
unfoldable pub members_at : Reader (List (List ℕ))
members_at = after (mark_at OpenBrace) (λ _. after names_at (λ xs. counted (λ _. xs) (mark_at CloseBrace)))

-- behind "entity": name ":" "{" names "}"
unfoldable pub entity_type_at : Reader StatementForm
entity_type_at = after declared_name_at (λ x. counted (entity_type x) members_at)

-- behind "attr": name "of" name ":" range
unfoldable pub attribute_at : Reader StatementForm
attribute_at = after (pair_at keywords.Of) (λ p. after (mark_at Colon) (λ _. counted (attribute p.0 p.1) range_at))

-- behind "domain", "goal" or "obstacle": name ":" formula
unfoldable pub named_body_at : (List ℕ → RawTree → StatementForm) → Reader StatementForm
named_body_at form = after declared_name_at (λ x. counted (form x) body_at)

-- behind "rule": name ":" iff "entails" iff
unfoldable pub rule_at : Reader StatementForm
rule_at = after declared_name_at (λ x. after side_at (λ f. after (keyword_at keywords.Entails) (λ _. counted (rule x f) side_at)))

-- ---- links

-- [ "using" name ]
unfoldable pub pattern_at : Reader (Option (List ℕ))
pattern_at = if_word keywords.Using (counted (λ x. Some x) name_at) (giving None)

-- behind "refine": name "by" names [ "using" name ]
unfoldable pub refinement_at : Reader StatementForm
refinement_at = after group_at (λ p. counted (refinement p.0 p.1) pattern_at)

-- behind "obstruct": name "by" names
unfoldable pub obstruction_at : Reader StatementForm
obstruction_at = counted (λ p. obstruction p.0 p.1) group_at

-- names that have to be two or more
abbrev pub if_several : List (List ℕ) → Reader (List (List ℕ))
if_several xs ts = if nat_le 2 (length xs) then Ok (xs, ts) else Err ts

-- name "," names
unfoldable pub several_at : Reader (List (List ℕ))
several_at = after names_at if_several

-- behind "conflict": name ":" name "," names "boundary" formula
unfoldable pub conflict_at : Reader StatementForm
conflict_at = after declared_name_at (λ x. after several_at (λ xs. counted (conflict x xs) (body_behind keywords.Boundary)))

-- ---- agents and operations

-- behind "agent": name [ "monitors" names ] [ "controls" names ]
unfoldable pub agent_at : Reader StatementForm
agent_at = after name_at (λ x. after (part_at keywords.Monitors) (λ xs. counted (agent x xs) (part_at keywords.Controls)))

-- behind "assign": name "to" name
unfoldable pub assignment_at : Reader StatementForm
assignment_at = counted (λ p. assignment p.0 p.1) (pair_at keywords.To)

-- behind "expect": name "of" name
unfoldable pub expectation_at : Reader StatementForm
expectation_at = counted (λ p. expectation p.0 p.1) (pair_at keywords.Of)

-- behind "operation": name "by" name "dompre" formula "dompost" formula
unfoldable pub operation_at : Reader StatementForm
operation_at =
    after (pair_at keywords.By) (λ p. after (body_behind keywords.Dompre) (λ f. counted (operation p.0 p.1 f) (body_behind keywords.Dompost)))

-- "pre" | "trig" | "post"
unfoldable pub role_at : Reader Role
role_at =
    if_word keywords.Pre (giving roles.Pre) (if_word keywords.Trig (giving roles.Trig) (if_word keywords.Post (giving roles.Post) nowhere))

-- behind "require": name "on" name ( "pre" | "trig" | "post" ) formula
unfoldable pub requirement_at : Reader StatementForm
requirement_at = after (pair_at keywords.On) (λ p. after role_at (λ role. counted (requirement p.0 p.1 role) body_at))

-- [ "exact" ]
unfoldable pub exact_at : Reader Bool
exact_at = if_word keywords.Exact (giving true) (giving false)

-- behind "operationalise": name "by" names [ "exact" ]
unfoldable pub operationalisation_at : Reader StatementForm
operationalisation_at = after group_at (λ p. counted (operationalisation p.0 p.1) exact_at)

-- ---- traces

-- a value of a variable, wherever it lies in memory
abbrev pub setting_of : List ℕ × RawValue → Setting
setting_of s = record { variable = s.0; value = written s.1 }

-- name "=" value
unfoldable pub set_at : Reader Setting
set_at = after name_at (λ x. after (mark_at Equal) (λ _. counted (λ v. record { variable = x; value = v }) value_at))

-- set { "," set } "}"
unfoldable pub some_sets_at : Reader (List Setting)
some_sets_at = after (listed_at set_at) (λ sets. counted (λ _. sets) (mark_at CloseBrace))

-- [ set { "," set } ] "}", behind the "{" of a state
unfoldable pub state_at : Reader (List Setting)
state_at = if_sign CloseBrace (giving []) some_sets_at

-- { state }
unfoldable pub states_at : Reader (List (List Setting))
states_at ts = more_at OpenBrace state_at (length ts) [] ts

-- states that have to be one or more
abbrev pub if_some : List (List Setting) → Reader (List (List Setting))
if_some [] ts = Err ts
if_some (s ∷ ss) ts = Ok (s ∷ ss, ts)

-- state { state }
unfoldable pub cycle_at : Reader (List (List Setting))
cycle_at = after states_at if_some

-- behind "trace": name ":" { state } "loop" state { state }
unfoldable pub trace_at : Reader StatementForm
trace_at = after declared_name_at (λ x. after states_at (λ prefix. after (keyword_at keywords.Loop) (λ _. counted (trace x prefix) cycle_at)))

-- ---- statements and texts

-- a statement without its semicolon: the first token says which form it has
abbrev pub statement_at : Reader StatementForm
statement_at (keyword keywords.Var ∷ ts) = variable_at ts
statement_at (further furthers.Entity ∷ ts) = entity_type_at ts
statement_at (further furthers.Attr ∷ ts) = attribute_at ts
statement_at (keyword keywords.Domain ∷ ts) = named_body_at domain ts
statement_at (keyword keywords.Rule ∷ ts) = rule_at ts
statement_at (keyword keywords.Goal ∷ ts) = named_body_at goal ts
statement_at (keyword keywords.Obstacle ∷ ts) = named_body_at obstacle ts
statement_at (keyword keywords.Refine ∷ ts) = refinement_at ts
statement_at (keyword keywords.Obstruct ∷ ts) = obstruction_at ts
statement_at (keyword keywords.Conflict ∷ ts) = conflict_at ts
statement_at (keyword keywords.Agent ∷ ts) = agent_at ts
statement_at (keyword keywords.Assign ∷ ts) = assignment_at ts
statement_at (keyword keywords.Expect ∷ ts) = expectation_at ts
statement_at (keyword keywords.Operation ∷ ts) = operation_at ts
statement_at (keyword keywords.Require ∷ ts) = requirement_at ts
statement_at (keyword keywords.Operationalise ∷ ts) = operationalisation_at ts
statement_at (keyword keywords.Trace ∷ ts) = trace_at ts
statement_at ts = Err ts

-- a statement and its semicolon
unfoldable pub ended_statement_at : Reader StatementForm
ended_statement_at ts = and_then (statement_at ts) (λ s us. read_as (λ _. s) (mark_at Semicolon us))

-- statements behind those that are read already, to the end
unfoldable pub statements_at : ℕ → List StatementForm → Reader (List StatementForm)
statements_at n front [] = Ok (front, [])
statements_at zero front (t ∷ ts) = Err (t ∷ ts)
statements_at (suc n) front (t ∷ ts) = and_then (ended_statement_at (t ∷ ts)) (λ s rest. statements_at n (front ++ s ∷ []) rest)

-- the version that a number names, or a fault at the number where it names none
abbrev pub version_or_fault : Option ℕ → TokenForm → Reader ℕ
version_or_fault (Some n) t ts = Ok (n, ts)
version_or_fault None t ts = Err (t ∷ ts)

-- the number of the version, which is 1 or 2
unfoldable pub version_number_at : Reader ℕ
version_number_at (number negative digits ∷ ts) = version_or_fault (version_named negative digits) (number negative digits) ts
version_number_at ts = Err ts

-- "kaos" ( "1" | "2" ) ";"
unfoldable pub version_at : Reader ℕ
version_at ts =
    and_then (keyword_at keywords.Kaos ts) (λ _ us. and_then (version_number_at us) (λ n vs. read_as (λ _. n) (mark_at Semicolon vs)))

-- a whole text: "kaos" ( "1" | "2" ) ";" { statement ";" }
unfoldable pub text_at : Reader (List StatementForm)
text_at ts = and_then (version_at ts) (λ n us. statements_at (length us) (version n ∷ []) us)
