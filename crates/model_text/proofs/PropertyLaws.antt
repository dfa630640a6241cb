-- Variables and the statements that name a formula are read as they are spelled.
use Rattle.std.proofs.Common.{◌≡◌, ℕ, Bool, ℤ, List, [], ◌∷◌, ◌++◌, Ok, refl, ap, subst, append_assoc}
use Rattle.state_space.specs.declared.keyword.Keyword.TheVariants as keywords
use Rattle.state_space.specs.Ranges.{RangeForm, truth_values, named, span}
use Rattle.model_tokens.specs.declared.token.Sign.TheVariants.{Colon, Dots, OpenBrace, CloseBrace}
use Rattle.model_tokens.specs.declared.token.Further.TheVariants as furthers
use Rattle.model_tokens.specs.Tokens.{TokenForm, keyword, mark, number, further}
use Rattle.model_text.specs.RawTrees.{RawTree}
use Rattle.model_tokens.specs.Values.{number_value}
use Rattle.model_text.specs.FormulaGrammar.{whole_level, iff_level, SpellsFormula}
use Rattle.model_text.specs.Statements.{StatementForm, variable, entity_type, attribute, domain, rule, goal, obstacle}
use Rattle.model_text.specs.Grammar.{SpellsNames, SpellsRange, a_boolean, an_enumeration, a_span, SpellsStatement, a_variable, an_entity_type, an_attribute, a_domain, a_rule, a_goal, an_obstacle}
use Rattle.model_text.specs.Readers.{after, counted, if_word, if_sign}
use Rattle.model_text.specs.StatementReading.{number_at, span_at, enumeration_at, range_at, variable_at, members_at, entity_type_at, attribute_at, named_body_at, rule_at}
use Rattle.model_text.proofs.FormulaTokens.{ok_parts}
use Rattle.model_text.proofs.PartLaws.{Finds, IsKeyword, is_keyword, IsSign, is_mark, IsNothing, is_nothing, Both, both, Made, made, Behind, here, other, finds_as, finds_keyword, finds_mark, finds_nothing, finds_after, finds_counted, finds_word, finds_sign}
use Rattle.model_text.proofs.NameLaws.{names_found, names_read, IsPair, is_pair, pair_found, IsLabel, is_declared_name, declared_name_found, body_found, side_found}

-- ---- ranges

data IsNumber : List TokenForm → ℤ → Type 0 where
  is_number : (s : Bool) (d : List ℕ) → IsNumber (number s d ∷ []) (number_value s d)

record FindsNumber (ts : List TokenForm) (v : ℤ) (rest : List TokenForm) : Type 0 where
  negative : Bool
  digits : List ℕ
  value : number_value negative digits ≡ v
  is : ts ≡ number negative digits ∷ rest

number_at-ok : (ts : List TokenForm) (v : ℤ) (rest : List TokenForm) → number_at ts ≡ Ok (v, rest) → FindsNumber ts v rest
unfolding number_at
number_at-ok [] v rest e = absurd cc
number_at-ok (number s d ∷ ts) v rest e =
    let p = ok_parts (number_value s d) v ts rest e in
    record { negative = s; digits = d; value = p.0; is = ap (λ (us : List TokenForm). number s d ∷ us) p.1 }
number_at-ok (t ∷ ts) v rest e = absurd cc

number_found : Finds IsNumber number_at
number_found = record {
  found = λ ts v rest e.
      let f = number_at-ok ts v rest e in
      let token = number f.negative f.digits ∷ [] in
      record { tokens = token; spelled = subst (IsNumber token) f.value (is_number f.negative f.digits); is = f.is };
}

span_spelled : {us : List TokenForm} {r : RangeForm} → Both IsNumber (λ low. Both (IsSign Dots) (λ _. Made (span low) IsNumber)) us r → SpellsRange us r
span_spelled (both (is_number s d) (both (is_mark u) (made (is_number t e)))) = a_span s t d e

span_found : Finds SpellsRange span_at
unfolding span_at
span_found = finds_as (λ us r s. span_spelled s) (finds_after number_found (λ low. finds_after (finds_mark Dots) (λ _. finds_counted (span low) number_found)))

data IsEnumeration : List TokenForm → RangeForm → Type 0 where
  is_enumeration : {ts : List TokenForm} {xs : List (List ℕ)} → SpellsNames ts xs → IsEnumeration (ts ++ mark CloseBrace ∷ []) (named xs)

enumeration_spelled : {us : List TokenForm} {r : RangeForm} → Both SpellsNames (λ xs. Made (λ _. named xs) (IsSign CloseBrace)) us r → IsEnumeration us r
enumeration_spelled (both n (made (is_mark u))) = is_enumeration n

enumeration_found : Finds IsEnumeration enumeration_at
unfolding enumeration_at
enumeration_found = finds_as (λ us r s. enumeration_spelled s) (finds_after names_found (λ xs. finds_counted (λ _. named xs) (finds_mark CloseBrace)))

range_spelled : {us : List TokenForm} {r : RangeForm} → Behind (keyword keywords.Bool) (IsNothing truth_values) (Behind (mark OpenBrace) IsEnumeration SpellsRange) us r → SpellsRange us r
range_spelled (here is_nothing) = a_boolean
range_spelled (other (here (is_enumeration n))) = an_enumeration n
range_spelled (other (other s)) = s

range_found : Finds SpellsRange range_at
unfolding range_at
range_found = finds_as (λ us r s. range_spelled s) (finds_word keywords.Bool (finds_nothing truth_values) (finds_sign OpenBrace enumeration_found span_found))

pub range_read : {ts : List TokenForm} {r : RangeForm} → SpellsRange ts r → (rest : List TokenForm) → range_at (ts ++ rest) ≡ Ok (r, rest)
unfolding range_at if_word if_sign enumeration_at span_at after counted number_at
range_read a_boolean rest = refl
range_read (an_enumeration {ts = ts} n) rest = rw (append_assoc ts (mark CloseBrace ∷ []) rest, names_read n (mark CloseBrace ∷ rest) refl) refl
range_read (a_span s t d e) rest = refl

-- ---- statements, behind their keywords

variable_spelled : {us : List TokenForm} {s : StatementForm} → Both IsLabel (λ x. Made (variable x) SpellsRange) us s → SpellsStatement (keyword keywords.Var ∷ us) s
variable_spelled (both (is_declared_name x) (made r)) = a_variable x r

pub variable_at-ok : Finds (λ us s. SpellsStatement (keyword keywords.Var ∷ us) s) variable_at
unfolding variable_at
variable_at-ok = finds_as (λ us s p. variable_spelled p) (finds_after declared_name_found (λ x. finds_counted (variable x) range_found))

data IsBraced : List TokenForm → List (List ℕ) → Type 0 where
  is_braced : {ts : List TokenForm} {xs : List (List ℕ)} → SpellsNames ts xs → IsBraced (mark OpenBrace ∷ ts ++ mark CloseBrace ∷ []) xs

members_spelled : {us : List TokenForm} {xs : List (List ℕ)} → Both (IsSign OpenBrace) (λ _. Both SpellsNames (λ ys. Made (λ _. ys) (IsSign CloseBrace))) us xs → IsBraced us xs
members_spelled (both (is_mark u) (both n (made (is_mark v)))) = is_braced n

members_found : Finds IsBraced members_at
unfolding members_at
members_found = finds_as (λ us xs s. members_spelled s) (finds_after (finds_mark OpenBrace) (λ _. finds_after names_found (λ xs. finds_counted (λ _. xs) (finds_mark CloseBrace))))

pub members_read : {ts : List TokenForm} {xs : List (List ℕ)} → SpellsNames ts xs → (rest : List TokenForm) → members_at ((mark OpenBrace ∷ ts ++ mark CloseBrace ∷ []) ++ rest) ≡ Ok (xs, rest)
unfolding members_at after counted
members_read {ts = ts} n rest = rw (append_assoc ts (mark CloseBrace ∷ []) rest, names_read n (mark CloseBrace ∷ rest) refl) refl

entity_type_spelled : {us : List TokenForm} {s : StatementForm} → Both IsLabel (λ x. Made (entity_type x) IsBraced) us s → SpellsStatement (further furthers.Entity ∷ us) s
entity_type_spelled (both (is_declared_name x) (made (is_braced n))) = an_entity_type x n

pub entity_type_at-ok : Finds (λ us s. SpellsStatement (further furthers.Entity ∷ us) s) entity_type_at
unfolding entity_type_at
entity_type_at-ok = finds_as (λ us s p. entity_type_spelled p) (finds_after declared_name_found (λ x. finds_counted (entity_type x) members_found))

attribute_spelled : {us : List TokenForm} {s : StatementForm} → Both (IsPair keywords.Of) (λ p. Both (IsSign Colon) (λ _. Made (attribute p.0 p.1) SpellsRange)) us s → SpellsStatement (further furthers.Attr ∷ us) s
attribute_spelled (both (is_pair x y) (both (is_mark u) (made r))) = an_attribute x y r

pub attribute_at-ok : Finds (λ us s. SpellsStatement (further furthers.Attr ∷ us) s) attribute_at
unfolding attribute_at
attribute_at-ok = finds_as (λ us s p. attribute_spelled p) (finds_after (pair_found keywords.Of) (λ p. finds_after (finds_mark Colon) (λ _. finds_counted (attribute p.0 p.1) range_found)))

named_found : (form : List ℕ → RawTree → StatementForm) → Finds (Both IsLabel (λ x. Made (form x) (SpellsFormula whole_level))) (named_body_at form)
unfolding named_body_at
named_found form = finds_after declared_name_found (λ x. finds_counted (form x) body_found)

domain_spelled : {us : List TokenForm} {s : StatementForm} → Both IsLabel (λ x. Made (domain x) (SpellsFormula whole_level)) us s → SpellsStatement (keyword keywords.Domain ∷ us) s
domain_spelled (both (is_declared_name x) (made f)) = a_domain x f

pub domain_at-ok : Finds (λ us s. SpellsStatement (keyword keywords.Domain ∷ us) s) (named_body_at domain)
domain_at-ok = finds_as (λ us s p. domain_spelled p) (named_found domain)

goal_spelled : {us : List TokenForm} {s : StatementForm} → Both IsLabel (λ x. Made (goal x) (SpellsFormula whole_level)) us s → SpellsStatement (keyword keywords.Goal ∷ us) s
goal_spelled (both (is_declared_name x) (made f)) = a_goal x f

pub goal_at-ok : Finds (λ us s. SpellsStatement (keyword keywords.Goal ∷ us) s) (named_body_at goal)
goal_at-ok = finds_as (λ us s p. goal_spelled p) (named_found goal)

obstacle_spelled : {us : List TokenForm} {s : StatementForm} → Both IsLabel (λ x. Made (obstacle x) (SpellsFormula whole_level)) us s → SpellsStatement (keyword keywords.Obstacle ∷ us) s
obstacle_spelled (both (is_declared_name x) (made f)) = an_obstacle x f

pub obstacle_at-ok : Finds (λ us s. SpellsStatement (keyword keywords.Obstacle ∷ us) s) (named_body_at obstacle)
obstacle_at-ok = finds_as (λ us s p. obstacle_spelled p) (named_found obstacle)

rule_spelled : {us : List TokenForm} {s : StatementForm}
    → Both IsLabel (λ x. Both (SpellsFormula iff_level) (λ f. Both (IsKeyword keywords.Entails) (λ _. Made (rule x f) (SpellsFormula iff_level)))) us s → SpellsStatement (keyword keywords.Rule ∷ us) s
rule_spelled (both (is_declared_name x) (both f (both (is_keyword u) (made g)))) = a_rule x f g

pub rule_at-ok : Finds (λ us s. SpellsStatement (keyword keywords.Rule ∷ us) s) rule_at
unfolding rule_at
rule_at-ok = finds_as (λ us s p. rule_spelled p) (finds_after declared_name_found (λ x. finds_after side_found (λ f. finds_after (finds_keyword keywords.Entails) (λ _. finds_counted (rule x f) side_found))))
