-- Reading a formula from the front of a list of tokens, from left to right: at a fault, the tokens from the one that cannot stand there.
use Rattle.std.specs.Prelude.{ℕ, zero, suc, Bool, ◌&&◌, is_none, List, [], ◌∷◌, ◌++◌, length, Option, Some, None, Ok, Err}
use Rattle.state_space.specs.declared.keyword.Keyword.TheVariants as keywords
use Rattle.model_tokens.specs.declared.token.Sign.TheVariants.{Colon, Comma, OpenParenthesis, CloseParenthesis, OpenBrace, CloseBrace}
use Rattle.model_text.specs.declared.formula_reader.Opening.{Opening}
use Rattle.model_text.specs.declared.formula_reader.Opening.TheVariants as openings
use Rattle.model_text.specs.declared.formula_reader.Connective.{Connective}
use Rattle.model_text.specs.declared.formula_reader.Connective.TheVariants as connectives
use Rattle.model_text.specs.declared.formula_reader.Joining.{Joining}
use Rattle.model_text.specs.declared.formula_reader.Joining.TheVariants as joinings
use Rattle.model_tokens.specs.declared.token.Further.TheVariants as furthers
use Rattle.temporal_logic.specs.Ltl.{Relation}
use Rattle.model_tokens.specs.Tokens.{TokenForm, mark, number}
use Rattle.model_text.specs.RawTrees.{WrittenValue, a_word, an_attribute, RawTree, truth, falsity, bare, compares, among, bare_of, compares_of, among_of, neg, next, eventually, always, eventually_within, always_within, conj, disj, implies, iff, entails, until, unless, release, until_within, unless_within, release_within, for_all, for_some}
use Rattle.model_tokens.specs.Values.{bound_value}
use Rattle.model_text.specs.Leaves.{relation_of, value_of}
use Rattle.model_text.specs.Reading.{Reading, and_then, behind_keyword, behind_mark, behind_further, mark_at, further_at, name_at}

-- a reader of one level of the grammar
abbrev pub Reads : Type 0
Reads = List TokenForm → Reading RawTree

-- one way behind a token, and another where it does not stand here
abbrev pub if_behind : {B : Type 0} → Option (List TokenForm) → (List TokenForm → B) → B → B
if_behind (Some rest) go otherwise = go rest
if_behind None go otherwise = otherwise

-- what is read counts as something else
abbrev pub read_as : {A B : Type 0} → (A → B) → Reading A → Reading B
read_as make (Ok x) = Ok (make x.0, x.1)
read_as make (Err rest) = Err rest

-- the tokens behind a number
abbrev pub number_behind : List TokenForm → Option (List TokenForm)
number_behind (number negative digits ∷ ts) = Some ts
number_behind _ = None

-- a number of steps, as the bound of an operator
abbrev pub steps_at : List TokenForm → Reading ℕ
steps_at (number negative digits ∷ ts) = Ok (bound_value negative digits, ts)
steps_at ts = Err ts

-- [ "within" number ]
unfoldable pub bound_at : List TokenForm → Reading (Option ℕ)
bound_at ts = if_behind (behind_keyword keywords.Within ts) (λ rest. read_as (λ d. Some d) (steps_at rest)) (Ok (None, ts))

-- the value that the first token is, or a fault there where it is none
abbrev pub value_or_fault : Option WrittenValue → TokenForm → List TokenForm → Reading WrittenValue
value_or_fault (Some v) t ts = Ok (v, ts)
value_or_fault None t ts = Err (t ∷ ts)

-- name | number | "true" | "false"
unfoldable pub value_at : List TokenForm → Reading WrittenValue
value_at [] = Err []
value_at (t ∷ ts) = value_or_fault (value_of t) t ts

-- the comparison that a sign is, if it is one, with the tokens behind it
abbrev pub with_rest : Option Relation → List TokenForm → Option (Relation × List TokenForm)
with_rest (Some r) ts = Some (r, ts)
with_rest None ts = None

-- "=" | "!=" | "<" | "<=" | ">" | ">="
abbrev pub comparison_at : List TokenForm → Option (Relation × List TokenForm)
comparison_at (mark m ∷ ts) = with_rest (relation_of m) ts
comparison_at _ = None

-- { "," value }: the number bounds how many more
unfoldable pub more_values_at : ℕ → List WrittenValue → List TokenForm → Reading (List WrittenValue)
more_values_at zero front ts = Ok (front, ts)
more_values_at (suc n) front ts = if_behind (behind_mark Comma ts) (λ rest. and_then (value_at rest) (λ v more. more_values_at n (front ++ v ∷ []) more)) (Ok (front, ts))

-- value { "," value }
unfoldable pub values_at : List TokenForm → Reading (List WrittenValue)
values_at ts = and_then (value_at ts) (λ v rest. more_values_at (length rest) (v ∷ []) rest)

-- "{" value { "," value } "}"
unfoldable pub choice_at : List TokenForm → Reading (List WrittenValue)
choice_at ts = and_then (mark_at OpenBrace ts) (λ _ inner. and_then (values_at inner) (λ vs rest. read_as (λ _. vs) (mark_at CloseBrace rest)))

-- [ "(" name ")" ], behind a name
unfoldable pub argument_at : List TokenForm → Reading (Option (List ℕ))
argument_at ts =
    if_behind (behind_further furthers.OpenArgument ts) (λ rest. and_then (name_at rest) (λ x more. read_as (λ _. Some x) (mark_at CloseParenthesis more))) (Ok (None, ts))

-- what a name behind a comparison is: a word, or an attribute where a name in parentheses follows
abbrev pub right_with : List ℕ → Option (List ℕ) → WrittenValue
right_with f None = a_word f
right_with f (Some x) = an_attribute f x

-- what is compared with, once its value is read: only a word can go on, with a name in parentheses
abbrev pub right_behind : WrittenValue → List TokenForm → Reading WrittenValue
right_behind (a_word f) ts = read_as (right_with f) (argument_at ts)
right_behind v ts = Ok (v, ts)

-- value | name "(" name ")"
unfoldable pub right_at : List TokenForm → Reading WrittenValue
right_at ts = and_then (value_at ts) right_behind

-- an atom of a name alone, or of an attribute with the name in its parentheses
abbrev pub bare_with : List ℕ → Option (List ℕ) → RawTree
bare_with x None = bare x
bare_with f (Some x) = bare_of f x

-- the same name or attribute, compared
abbrev pub compares_with : List ℕ → Option (List ℕ) → Relation → WrittenValue → RawTree
compares_with x None r v = compares x r v
compares_with f (Some x) r v = compares_of f x r v

-- the same name or attribute, among values
abbrev pub among_with : List ℕ → Option (List ℕ) → List WrittenValue → RawTree
among_with x None vs = among x vs
among_with f (Some x) vs = among_of f x vs

-- what a name is, by what stands behind it
abbrev pub atom_by : List ℕ → Option (List ℕ) → List TokenForm → Option (Relation × List TokenForm) → Reading RawTree
atom_by x a ts (Some compared) = read_as (compares_with x a compared.0) (right_at compared.1)
atom_by x a ts None = if_behind (behind_keyword keywords.In ts) (λ rest. read_as (among_with x a) (choice_at rest)) (Ok (bare_with x a, ts))

-- name [ "(" name ")" ] [ cmp right | "in" "{" value { "," value } "}" ]
unfoldable pub atom_at : Reads
atom_at ts = and_then (name_at ts) (λ x rest. and_then (argument_at rest) (λ a more. atom_by x a more (comparison_at more)))

-- "(" formula ")", behind the parenthesis
abbrev pub closed : Reading RawTree → Reading RawTree
closed inner = and_then inner (λ f rest. read_as (λ _. f) (mark_at CloseParenthesis rest))

-- primary = "true" | "false" | "(" formula ")" | atom: the reader of the formula is given
unfoldable pub primary_with : Reads → Reads
primary_with whole ts =
    if_behind (behind_keyword keywords.True ts) (λ rest. Ok (truth, rest)) (
    if_behind (behind_keyword keywords.False ts) (λ rest. Ok (falsity, rest)) (
    if_behind (behind_mark OpenParenthesis ts) (λ rest. closed (whole rest)) (
    atom_at ts)))

-- name ":" name "("
unfoldable pub head_at : List TokenForm → Reading (List ℕ × List ℕ)
head_at ts =
    and_then (name_at ts) (λ x us. and_then (mark_at Colon us) (λ _ vs. and_then (name_at vs) (λ e ws. read_as (λ _. (x, e)) (further_at furthers.OpenArgument ws))))

-- name ":" name "(" formula ")"
unfoldable pub quantified_with : (List ℕ → List ℕ → RawTree → RawTree) → Reads → Reads
quantified_with make whole ts = and_then (head_at ts) (λ p inner. read_as (make p.0 p.1) (closed (whole inner)))

-- ( "all" | "some" ) name ":" name "(" formula ")" | primary
unfoldable pub simple_with : Reads → Reads
simple_with whole ts =
    if_behind (behind_further furthers.All ts) (quantified_with for_all whole) (
    if_behind (behind_further furthers.Some ts) (quantified_with for_some whole) (
    primary_with whole ts))

-- the operator of one operand that stands here, with its bound
unfoldable pub opening_at : List TokenForm → Reading (Option Opening)
opening_at ts =
    if_behind (behind_keyword keywords.Not ts) (λ rest. Ok (Some openings.Not, rest)) (
    if_behind (behind_keyword keywords.Next ts) (λ rest. Ok (Some openings.Next, rest)) (
    if_behind (behind_keyword keywords.Eventually ts) (λ rest. read_as (λ d. Some (openings.Eventually d)) (bound_at rest)) (
    if_behind (behind_keyword keywords.Always ts) (λ rest. read_as (λ d. Some (openings.Always d)) (bound_at rest)) (
    Ok (None, ts)))))

-- the formula that an operator of one operand makes of it, with its bound where it has one
abbrev pub opened : Opening → RawTree → RawTree
opened openings.Not a = neg a
opened openings.Next a = next a
opened (openings.Eventually None) a = eventually a
opened (openings.Eventually (Some d)) a = eventually_within d a
opened (openings.Always None) a = always a
opened (openings.Always (Some d)) a = always_within d a

-- the operand of the operator that was read, or where none was, a quantifier or a primary
abbrev pub prefix_behind : (prefix whole : Reads) → Option Opening → Reads
prefix_behind prefix whole None ts = simple_with whole ts
prefix_behind prefix whole (Some o) ts = read_as (opened o) (prefix ts)

-- prefix, where the readers of an operand and of a formula in parentheses are given
unfoldable pub prefix_with : (prefix whole : Reads) → Reads
prefix_with prefix whole ts = and_then (opening_at ts) (prefix_behind prefix whole)

-- the operator of two operands over time that stands here, with its bound
unfoldable pub joining_at : List TokenForm → Reading (Option Joining)
joining_at ts =
    if_behind (behind_keyword keywords.Until ts) (λ rest. read_as (λ d. Some (joinings.Until d)) (bound_at rest)) (
    if_behind (behind_keyword keywords.Unless ts) (λ rest. read_as (λ d. Some (joinings.Unless d)) (bound_at rest)) (
    if_behind (behind_keyword keywords.Release ts) (λ rest. read_as (λ d. Some (joinings.Release d)) (bound_at rest)) (
    Ok (None, ts))))

-- the formula that a connective makes of its two operands
abbrev pub connected : Connective → RawTree → RawTree → RawTree
connected connectives.And a b = conj a b
connected connectives.Or a b = disj a b
connected connectives.Implies a b = implies a b
connected connectives.Iff a b = iff a b
connected connectives.Entails a b = entails a b

-- the formula that an operator over time makes of its two operands
abbrev pub joined : Joining → RawTree → RawTree → RawTree
joined (joinings.Until None) a b = until a b
joined (joinings.Until (Some d)) a b = until_within d a b
joined (joinings.Unless None) a b = unless a b
joined (joinings.Unless (Some d)) a b = unless_within d a b
joined (joinings.Release None) a b = release a b
joined (joinings.Release (Some d)) a b = release_within d a b

-- the second operand of the operator that was read, or where none was, the first operand alone
abbrev pub tempo_behind : Reads → RawTree → Option Joining → Reads
tempo_behind prefix f None ts = Ok (f, ts)
tempo_behind prefix f (Some j) ts = read_as (joined j f) (prefix ts)

-- tempo = prefix [ ( "until" | "unless" | "release" ) [ "within" number ] prefix ]
unfoldable pub tempo_with : Reads → Reads
tempo_with prefix ts = and_then (prefix ts) (λ f rest. and_then (joining_at rest) (tempo_behind prefix f))

-- operands as long as the operator stands before them, grouped to the left: the number bounds how many
unfoldable pub chain : (List TokenForm → Option (List TokenForm)) → (RawTree → RawTree → RawTree) → Reads → ℕ → RawTree → Reads
chain behind make operand zero f ts = Ok (f, ts)
chain behind make operand (suc n) f ts = if_behind (behind ts) (λ rest. and_then (operand rest) (λ g more. chain behind make operand n (make f g) more)) (Ok (f, ts))

-- and = tempo { "and" tempo }
unfoldable pub and_with : Reads → Reads
and_with prefix ts = and_then (tempo_with prefix ts) (λ f rest. chain (behind_keyword keywords.And) conj (tempo_with prefix) (length rest) f rest)

-- or = and { "or" and }
unfoldable pub or_with : Reads → Reads
or_with prefix ts = and_then (and_with prefix ts) (λ f rest. chain (behind_keyword keywords.Or) disj (and_with prefix) (length rest) f rest)

-- a right operand, where the operator stands before it
abbrev pub with_right : (RawTree → RawTree) → Reads → RawTree → List TokenForm → Option (List TokenForm) → Reading RawTree
with_right make operand f ts None = Ok (f, ts)
with_right make operand f ts (Some rest) = read_as make (operand rest)

-- operands of "implies", grouped to the right: the number bounds how many operators
unfoldable pub implies_from : Reads → ℕ → Reads
implies_from prefix zero ts = or_with prefix ts
implies_from prefix (suc n) ts = and_then (or_with prefix ts) (λ f rest. with_right (implies f) (implies_from prefix n) f rest (behind_keyword keywords.Implies rest))

-- implies = or [ "implies" implies ]
unfoldable pub implies_with : Reads → Reads
implies_with prefix ts = implies_from prefix (length ts) ts

-- iff = implies [ "iff" implies ]
unfoldable pub iff_with : Reads → Reads
iff_with prefix ts = and_then (implies_with prefix ts) (λ f rest. with_right (iff f) (implies_with prefix) f rest (behind_keyword keywords.Iff rest))

-- formula = iff [ "entails" iff ]
unfoldable pub whole_with : Reads → Reads
whole_with prefix ts = and_then (iff_with prefix ts) (λ f rest. with_right (entails f) (iff_with prefix) f rest (behind_keyword keywords.Entails rest))

-- the number bounds how deep constructs open: that of the tokens is enough
unfoldable pub prefix_at : ℕ → Reads
prefix_at zero ts = Err ts
prefix_at (suc n) ts = prefix_with (prefix_at n) (whole_with (prefix_at n)) ts

-- a formula without an "entails" at the front, whose constructs open at most n deep
unfoldable pub iff_at : ℕ → Reads
iff_at n ts = iff_with (prefix_at n) ts

-- a whole formula at the front, whose constructs open at most n deep
unfoldable pub whole_at : ℕ → Reads
whole_at n ts = whole_with (prefix_at n) ts

-- nothing goes on here with an atom that was read: no comparison comes, no "in" and no name in parentheses
abbrev pub ends_atom : List TokenForm → Bool
ends_atom ts = is_none (comparison_at ts) && (is_none (behind_keyword keywords.In ts) && is_none (behind_further furthers.OpenArgument ts))

-- nor does an operator of tempo: "until", "unless" or "release"
abbrev pub ends_tempo : List TokenForm → Bool
ends_tempo ts = ends_atom ts && (is_none (behind_keyword keywords.Until ts) && (is_none (behind_keyword keywords.Unless ts) && is_none (behind_keyword keywords.Release ts)))

-- nor does an "and"
abbrev pub ends_and : List TokenForm → Bool
ends_and ts = ends_tempo ts && is_none (behind_keyword keywords.And ts)

-- nor does an "or"
abbrev pub ends_or : List TokenForm → Bool
ends_or ts = ends_and ts && is_none (behind_keyword keywords.Or ts)

-- nor does an "implies"
abbrev pub ends_implies : List TokenForm → Bool
ends_implies ts = ends_or ts && is_none (behind_keyword keywords.Implies ts)

-- nor does an "iff"
abbrev pub ends_iff : List TokenForm → Bool
ends_iff ts = ends_implies ts && is_none (behind_keyword keywords.Iff ts)

-- nor does an "entails": a whole formula ends here
abbrev pub ends_whole : List TokenForm → Bool
ends_whole ts = ends_iff ts && is_none (behind_keyword keywords.Entails ts)
