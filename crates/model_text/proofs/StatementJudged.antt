-- How statements go on.
use Rattle.std.proofs.Common.{◌≡◌, ℕ, zero, suc, ◌<◌, ◌≤◌, Bool, true, false, ℤ, List, [], ◌∷◌, ◌++◌, length, Option, Some, None, Ok, Err, refl, sym, ap, ◌∙◌, length-append, arith, inl, inr}
use Rattle.std.specs.Prelude.{nat_le, ◌&&◌}
use Rattle.std.proofs.lemmas.Bool.Decides.{nat_tests}
use Rattle.state_space.specs.declared.keyword.Keyword.{Keyword}
use Rattle.state_space.specs.declared.keyword.Keyword.TheVariants as keywords
use Rattle.state_space.specs.Ranges.{truth_values, named, span}
use Rattle.model_tokens.specs.declared.token.Sign.TheVariants.{Semicolon, Colon, Comma, Equal, Dots, OpenBrace, CloseBrace}
use Rattle.model_tokens.specs.declared.token.Further.TheVariants as furthers
use Rattle.model_text.specs.declared.statement.Role.TheVariants as roles
use Rattle.model_tokens.specs.Tokens.{TokenForm, keyword, mark, name, number, further, stray, bad_byte}
use Rattle.model_text.specs.RawTrees.{RawTree}
use Rattle.model_tokens.specs.Values.{number_value}
use Rattle.model_text.specs.Reading.{Reading, and_then, behind_mark, name_at}
use Rattle.model_text.specs.Readers.{Reader, after, if_sign, giving, nowhere, more_at, listed_at}
use Rattle.model_text.specs.FormulaReading.{if_behind, ends_iff, ends_whole}
use Rattle.model_text.specs.Statements.{Setting, StatementForm, variable, entity_type, attribute, domain, rule, goal, obstacle, refinement, obstruction, conflict, agent, assignment, expectation, operation, requirement, operationalisation, trace}
use Rattle.model_text.specs.StatementReading.{names_at, declared_name_at, pair_at, group_at, part_at, body_behind, number_at, span_at, enumeration_at, range_at, variable_at, members_at, entity_type_at, attribute_at, named_body_at, rule_at, pattern_at, refinement_at, obstruction_at, if_several, several_at, conflict_at, agent_at, assignment_at, expectation_at, operation_at, role_at, requirement_at, exact_at, operationalisation_at, set_at, some_sets_at, state_at, states_at, if_some, cycle_at, trace_at, statement_at}
use Rattle.model_tokens.specs.declared.token.Sign.{Sign}
use Rattle.model_text.proofs.FormulaTokens.{ok_parts, and_then_ok, if_behind_cases, both_left, both_right}
use Rattle.model_text.proofs.FormulaFuel.{same_then}
use Rattle.model_text.proofs.ReaderLaws.{Ends, anything, Law, SomeLaw, law_as, law_before, giving_law, after_law, then_law, counted_law, Picked, lead, lead_only}
use Rattle.model_text.proofs.TokenJudged.{word_law, word_only, sign_law, sign_only, keyword_law, mark_law, one_token, token_law, some_name, name_law, Shrinks, shrinks_by, unless_sign, unless_word, all_more, more_law, more_next, after_is, listed_law}
use Rattle.model_text.proofs.FormulaJudged.{some_number, start, and_then_giving, value_law, body_law, side_law}

-- ---- what stands behind a statement

-- a semicolon comes
abbrev pub at_semicolon : Ends
at_semicolon (mark Semicolon ∷ us) = true
at_semicolon _ = false

-- what ends before each semicolon
semicolon : (e : Ends) → ((us : List TokenForm) → e (mark Semicolon ∷ us) ≡ true) → (us : List TokenForm) → at_semicolon us ≡ true → e us ≡ true
semicolon e h (mark Semicolon ∷ us) is = h us
semicolon e h us is = absurd cc

ended : {v : Bool} {A : Type 0} {n : ℕ} {e : Ends} {s : List TokenForm} {read : Reader A} → ((us : List TokenForm) → e (mark Semicolon ∷ us) ≡ true) → Law v n e s read → Law v n at_semicolon s read
ended {e = e} h law = law_before (semicolon e h) law

-- ---- parts that forms share

name_shrinks : Shrinks name_at
name_shrinks = shrinks_by (λ n. name_law {e = anything})

abbrev no_comma : Ends
no_comma = unless_sign Comma

names_law : {v : Bool} {n : ℕ} → Law v n no_comma start names_at
names_law = listed_law name_shrinks (λ us h. refl) (name_law {e = anything})

declared_name_law : {v : Bool} {n : ℕ} {e : Ends} → Law v n e (some_name ∷ mark Colon ∷ []) declared_name_at
unfolding declared_name_at
declared_name_law = then_law name_law (λ x. counted_law (λ _. x) (mark_law Colon))

pair_law : {v : Bool} {n : ℕ} {e : Ends} (between : Keyword) → Law v n e (some_name ∷ keyword between ∷ some_name ∷ []) (pair_at between)
unfolding pair_at
pair_law between = then_law name_law (λ x. then_law (keyword_law between) (λ _. counted_law (λ y. (x, y)) name_law))

group_law : {v : Bool} {n : ℕ} → Law v n no_comma (some_name ∷ keyword keywords.By ∷ start) group_at
unfolding group_at
group_law = then_law name_law (λ x. then_law (keyword_law keywords.By) (λ _. counted_law (λ xs. (x, xs)) names_law))

body_behind_law : {v : Bool} {n : ℕ} (word : Keyword) → Law v n ends_whole (keyword word ∷ start) (body_behind word)
unfolding body_behind
body_behind_law word = then_law (keyword_law word) (λ _. body_law)

-- ---- variables and properties

abbrev taken_number : TokenForm → Option ℤ
taken_number (number negative digits) = Some (number_value negative digits)
taken_number _ = None

number_law : {v : Bool} {n : ℕ} {e : Ends} → Law v n e (some_number ∷ []) number_at
unfolding number_at
number_law = token_law taken_number some_number (number_value false (49 ∷ [])) ((omega arith, refl), tt) refl refl refl by_token
  where
    by_token : (ts : List TokenForm) → number_at ts ≡ one_token taken_number ts
    by_token [] = refl
    by_token (keyword k ∷ ts) = refl
    by_token (mark m ∷ ts) = refl
    by_token (name x ∷ ts) = refl
    by_token (number s d ∷ ts) = refl
    by_token (further f ∷ ts) = refl
    by_token (stray ∷ ts) = refl
    by_token (bad_byte ∷ ts) = refl

span_law : {v : Bool} {n : ℕ} {e : Ends} → Law v n e (some_number ∷ mark Dots ∷ some_number ∷ []) span_at
unfolding span_at
span_law = then_law number_law (λ low. then_law (mark_law Dots) (λ _. counted_law (span low) number_law))

enumeration_law : {v : Bool} {n : ℕ} {e : Ends} → Law v n e (some_name ∷ mark CloseBrace ∷ []) enumeration_at
unfolding enumeration_at
enumeration_law = after_law names_law (λ xs. counted_law (λ _. named xs) (mark_law CloseBrace)) (λ us h. refl)

range_law : {v : Bool} {n : ℕ} {e : Ends} → Law v n e (some_number ∷ mark Dots ∷ some_number ∷ []) range_at
unfolding range_at
range_law = word_law keywords.Bool (giving_law truth_values) (sign_law OpenBrace enumeration_law span_law (λ us h. refl)) (λ us h. refl)

variable_law : {v : Bool} {n : ℕ} {e : Ends} → Law v n e (some_name ∷ mark Colon ∷ some_number ∷ mark Dots ∷ some_number ∷ []) variable_at
unfolding variable_at
variable_law = then_law declared_name_law (λ x. counted_law (variable x) range_law)

members_law : {v : Bool} {n : ℕ} {e : Ends} → Law v n e (mark OpenBrace ∷ some_name ∷ mark CloseBrace ∷ []) members_at
unfolding members_at
members_law = then_law (mark_law OpenBrace) (λ _. after_law names_law (λ xs. counted_law (λ _. xs) (mark_law CloseBrace)) (λ us h. refl))

entity_type_law : {v : Bool} {n : ℕ} {e : Ends} → Law v n e (some_name ∷ mark Colon ∷ mark OpenBrace ∷ some_name ∷ mark CloseBrace ∷ []) entity_type_at
unfolding entity_type_at
entity_type_law = then_law declared_name_law (λ x. counted_law (entity_type x) members_law)

attribute_law : {v : Bool} {n : ℕ} {e : Ends} → Law v n e (some_name ∷ keyword keywords.Of ∷ some_name ∷ mark Colon ∷ some_number ∷ mark Dots ∷ some_number ∷ []) attribute_at
unfolding attribute_at
attribute_law = then_law (pair_law keywords.Of) (λ p. then_law (mark_law Colon) (λ _. counted_law (attribute p.0 p.1) range_law))

named_body_law : {v : Bool} {n : ℕ} (form : List ℕ → RawTree → StatementForm) → Law v n ends_whole (some_name ∷ mark Colon ∷ start) (named_body_at form)
unfolding named_body_at
named_body_law form = then_law declared_name_law (λ x. counted_law (form x) body_law)

rule_law : {v : Bool} {n : ℕ} → Law v n ends_iff (some_name ∷ mark Colon ∷ start ++ keyword keywords.Entails ∷ start) rule_at
unfolding rule_at
rule_law = then_law declared_name_law (λ x. after_law side_law (λ f. then_law (keyword_law keywords.Entails) (λ _. counted_law (rule x f) side_law)) (λ us h. refl))

-- ---- links

pattern_law : {v : Bool} {n : ℕ} → Law v n (unless_word keywords.Using) [] pattern_at
unfolding pattern_at
pattern_law = word_law keywords.Using (counted_law (λ x. Some x) name_law) (giving_law None) (λ us h. h)

refinement_law : {v : Bool} {n : ℕ} → Law v n at_semicolon (some_name ∷ keyword keywords.By ∷ start) refinement_at
unfolding refinement_at
refinement_law = after_law group_law (λ p. counted_law (refinement p.0 p.1) (ended (λ us. refl) pattern_law)) (semicolon no_comma (λ us. refl))

obstruction_law : {v : Bool} {n : ℕ} → Law v n no_comma (some_name ∷ keyword keywords.By ∷ start) obstruction_at
unfolding obstruction_at
obstruction_law = counted_law (λ p. obstruction p.0 p.1) group_law

no_fewer : {A : Type 0} (sign : Sign) (one : Reader A) (n : ℕ) (front : List A) (ts : List TokenForm) (xs : List A) (rest : List TokenForm) → more_at sign one n front ts ≡ Ok (xs, rest) → length front ≤ length xs
unfolding more_at
no_fewer sign one zero front ts xs rest e = let p = ok_parts front xs ts rest e in omega (arith, ap length p.0)
no_fewer {A} sign one (suc n) front ts xs rest e =
    elim (if_behind_cases (behind_mark sign ts) (λ us. and_then (one us) (λ x more. more_at sign one n (front ++ x ∷ []) more)) (Ok (front, ts)) (Ok (xs, rest)) e) [
      | inl h ↦
          let x = and_then_ok (one h.0) (λ x more. more_at sign one n (front ++ x ∷ []) more) xs rest h.2 in
          let more = no_fewer sign one n (front ++ x.0 ∷ []) x.1 xs rest x.3 in
          omega (arith, length-append front (x.0 ∷ []))
      | inr h ↦ let p = ok_parts front xs ts rest h.1 in omega (arith, ap length p.0)
    ]

then_nested : {A B C : Type 0} (o : Reading A) (k : A → List TokenForm → Reading B) (l : B → List TokenForm → Reading C) → and_then (and_then o k) l ≡ and_then o (λ x rest. and_then (k x rest) l)
then_nested (Ok x) k l = refl
then_nested (Err rest) k l = refl

-- a list that has to have one more than it has so far goes on with the sign
one_more_at : {A : Type 0} (sign : Sign) (one : Reader A) → Shrinks one → (keep : List A → Reader (List A)) (front : List A)
    → ((xs : List A) (ts : List TokenForm) → length front < length xs → keep xs ts ≡ Ok (xs, ts)) → ((ts : List TokenForm) → keep front ts ≡ Err ts)
    → (ts : List TokenForm) → and_then (all_more sign one front ts) keep ≡ if_sign sign (after one (λ x. all_more sign one (front ++ x ∷ []))) nowhere ts
unfolding if_sign
one_more_at {A} sign one shrinks keep front kept stops ts =
    ap (λ (o : Reading (List A)). and_then o keep) (more_next sign one shrinks front ts) ∙ by_rest (behind_mark sign ts)
  where
    some_more : (us : List TokenForm) (xs : List A) (rest : List TokenForm) → after one (λ x. all_more sign one (front ++ x ∷ [])) us ≡ Ok (xs, rest) → length front < length xs
    some_more us xs rest e =
        let x = and_then_ok (one us) (λ x. all_more sign one (front ++ x ∷ [])) xs rest (sym (after_is one (λ x. all_more sign one (front ++ x ∷ [])) us) ∙ e) in
        let more = no_fewer sign one (length x.1) (front ++ x.0 ∷ []) x.1 xs rest x.3 in
        omega (arith, length-append front (x.0 ∷ []))

    by_rest : (o : Option (List TokenForm)) → and_then (if_behind o (after one (λ x. all_more sign one (front ++ x ∷ []))) (giving front ts)) keep ≡ if_behind o (after one (λ x. all_more sign one (front ++ x ∷ []))) (nowhere ts)
    by_rest None = stops ts
    by_rest (Some us) = and_then_giving (after one (λ x. all_more sign one (front ++ x ∷ [])) us) keep (λ xs rest e. kept xs rest (some_more us xs rest e))

several_kept : (xs : List (List ℕ)) (ts : List TokenForm) → 1 < length xs → if_several xs ts ≡ Ok (xs, ts)
several_kept xs ts h = let long : nat_le 2 (length xs) ≡ true = grind (arith, nat_tests) in rw long refl

several_law : {v : Bool} {n : ℕ} → Law v n no_comma (some_name ∷ mark Comma ∷ start) several_at
unfolding several_at listed_at after
several_law =
    law_as {same = after name_at (λ x. if_sign Comma (after name_at (λ y. all_more Comma name_at (x ∷ y ∷ []))) nowhere)}
    (λ ts.
    then_nested (name_at ts) (λ x. all_more Comma name_at (x ∷ [])) if_several
    ∙ same_then (name_at ts) (λ x rest. and_then (all_more Comma name_at (x ∷ []) rest) if_several) (λ x. if_sign Comma (after name_at (λ y. all_more Comma name_at (x ∷ y ∷ []))) nowhere)
    (λ x rest e. one_more_at Comma name_at name_shrinks if_several (x ∷ []) several_kept (λ us. refl) rest))
    (then_law name_law (λ x. sign_only Comma (after_law name_law (λ y. more_law Comma name_shrinks (λ us h. refl) (name_law {e = anything}) (x ∷ y ∷ [])) (λ us h. refl))))

conflict_law : {v : Bool} {n : ℕ} → Law v n ends_whole (some_name ∷ mark Colon ∷ some_name ∷ mark Comma ∷ some_name ∷ keyword keywords.Boundary ∷ start) conflict_at
unfolding conflict_at
conflict_law = then_law declared_name_law (λ x. after_law several_law (λ xs. counted_law (conflict x xs) (body_behind_law keywords.Boundary)) (λ us h. refl))

-- ---- agents and operations

abbrev ends_part : Keyword → Ends
ends_part word us = no_comma us && unless_word word us

part_law : {v : Bool} {n : ℕ} (word : Keyword) → Law v n (ends_part word) [] (part_at word)
unfolding part_at
part_law word = word_law word (law_before (λ us h. both_left (no_comma us) (unless_word word us) h) names_law) (giving_law []) (λ us h. both_right (no_comma us) (unless_word word us) h)

agent_law : {v : Bool} {n : ℕ} → Law v n at_semicolon start agent_at
unfolding agent_at
agent_law =
    then_law name_law (λ x. after_law (part_law keywords.Monitors) (λ xs. counted_law (agent x xs) (ended (λ us. refl) (part_law keywords.Controls))) (semicolon (ends_part keywords.Monitors) (λ us. refl)))

assignment_law : {v : Bool} {n : ℕ} {e : Ends} → Law v n e (some_name ∷ keyword keywords.To ∷ some_name ∷ []) assignment_at
unfolding assignment_at
assignment_law = counted_law (λ p. assignment p.0 p.1) (pair_law keywords.To)

expectation_law : {v : Bool} {n : ℕ} {e : Ends} → Law v n e (some_name ∷ keyword keywords.Of ∷ some_name ∷ []) expectation_at
unfolding expectation_at
expectation_law = counted_law (λ p. expectation p.0 p.1) (pair_law keywords.Of)

operation_law : {v : Bool} {n : ℕ} → Law v n ends_whole (some_name ∷ keyword keywords.By ∷ some_name ∷ keyword keywords.Dompre ∷ some_name ∷ keyword keywords.Dompost ∷ start) operation_at
unfolding operation_at
operation_law =
    then_law (pair_law keywords.By) (λ p. after_law (body_behind_law keywords.Dompre) (λ f. counted_law (operation p.0 p.1 f) (body_behind_law keywords.Dompost)) (λ us h. refl))

role_law : {v : Bool} {n : ℕ} {e : Ends} → Law v n e (keyword keywords.Post ∷ []) role_at
unfolding role_at
role_law = word_law keywords.Pre (giving_law roles.Pre) (word_law keywords.Trig (giving_law roles.Trig) (word_only keywords.Post (giving_law roles.Post)) (λ us h. refl)) (λ us h. refl)

requirement_law : {v : Bool} {n : ℕ} → Law v n ends_whole (some_name ∷ keyword keywords.On ∷ some_name ∷ keyword keywords.Post ∷ start) requirement_at
unfolding requirement_at
requirement_law = then_law (pair_law keywords.On) (λ p. then_law role_law (λ role. counted_law (requirement p.0 p.1 role) body_law))

exact_law : {v : Bool} {n : ℕ} → Law v n (unless_word keywords.Exact) [] exact_at
unfolding exact_at
exact_law = word_law keywords.Exact (giving_law true) (giving_law false) (λ us h. h)

operationalisation_law : {v : Bool} {n : ℕ} → Law v n at_semicolon (some_name ∷ keyword keywords.By ∷ start) operationalisation_at
unfolding operationalisation_at
operationalisation_law = after_law group_law (λ p. counted_law (operationalisation p.0 p.1) (ended (λ us. refl) exact_law)) (semicolon no_comma (λ us. refl))

-- ---- traces

set_law : {v : Bool} {n : ℕ} {e : Ends} → Law v n e (some_name ∷ mark Equal ∷ keyword keywords.True ∷ []) set_at
unfolding set_at
set_law = then_law name_law (λ x. then_law (mark_law Equal) (λ _. counted_law (λ v. record { variable = x; value = v }) value_law))

some_sets_law : {v : Bool} {n : ℕ} {e : Ends} → Law v n e (some_name ∷ mark Equal ∷ keyword keywords.True ∷ mark CloseBrace ∷ []) some_sets_at
unfolding some_sets_at
some_sets_law = after_law (listed_law (shrinks_by (λ n. set_law {e = anything})) (λ us h. refl) (set_law {e = anything})) (λ sets. counted_law (λ _. sets) (mark_law CloseBrace)) (λ us h. refl)

state_law : {v : Bool} {n : ℕ} {e : Ends} → Law v n e (some_name ∷ mark Equal ∷ keyword keywords.True ∷ mark CloseBrace ∷ []) state_at
unfolding state_at
state_law = sign_law CloseBrace (giving_law []) some_sets_law (λ us h. refl)

state_shrinks : Shrinks state_at
state_shrinks = shrinks_by (λ n. state_law {e = anything})

states_law : {v : Bool} {n : ℕ} → Law v n (unless_sign OpenBrace) [] states_at
unfolding states_at
states_law = law_as {same = all_more OpenBrace state_at []} (λ ts. refl) (more_law OpenBrace state_shrinks (λ us h. refl) (state_law {e = anything}) [])

some_kept : (ss : List (List Setting)) (ts : List TokenForm) → 0 < length ss → if_some ss ts ≡ Ok (ss, ts)
some_kept [] ts h = absurd (omega arith)
some_kept (s ∷ ss) ts h = refl

cycle_law : {v : Bool} {n : ℕ} → Law v n (unless_sign OpenBrace) (mark OpenBrace ∷ some_name ∷ mark Equal ∷ keyword keywords.True ∷ mark CloseBrace ∷ []) cycle_at
unfolding cycle_at states_at after
cycle_law =
    law_as {same = if_sign OpenBrace (after state_at (λ s. all_more OpenBrace state_at (s ∷ []))) nowhere} (λ ts. one_more_at OpenBrace state_at state_shrinks if_some [] some_kept (λ us. refl) ts)
    (sign_only OpenBrace (after_law state_law (λ s. more_law OpenBrace state_shrinks (λ us h. refl) (state_law {e = anything}) (s ∷ [])) (λ us h. refl)))

trace_law : {v : Bool} {n : ℕ} → Law v n (unless_sign OpenBrace) (some_name ∷ mark Colon ∷ keyword keywords.Loop ∷ mark OpenBrace ∷ some_name ∷ mark Equal ∷ keyword keywords.True ∷ mark CloseBrace ∷ []) trace_at
unfolding trace_at
trace_law = then_law declared_name_law (λ x. after_law states_law (λ prefix. then_law (keyword_law keywords.Loop) (λ _. counted_law (trace x prefix) cycle_law)) (λ us h. refl))

-- ---- statements

abbrev pick_statement : TokenForm → Option (Reader StatementForm)
pick_statement (keyword keywords.Var) = Some variable_at
pick_statement (further furthers.Entity) = Some entity_type_at
pick_statement (further furthers.Attr) = Some attribute_at
pick_statement (keyword keywords.Domain) = Some (named_body_at domain)
pick_statement (keyword keywords.Rule) = Some rule_at
pick_statement (keyword keywords.Goal) = Some (named_body_at goal)
pick_statement (keyword keywords.Obstacle) = Some (named_body_at obstacle)
pick_statement (keyword keywords.Refine) = Some refinement_at
pick_statement (keyword keywords.Obstruct) = Some obstruction_at
pick_statement (keyword keywords.Conflict) = Some conflict_at
pick_statement (keyword keywords.Agent) = Some agent_at
pick_statement (keyword keywords.Assign) = Some assignment_at
pick_statement (keyword keywords.Expect) = Some expectation_at
pick_statement (keyword keywords.Operation) = Some operation_at
pick_statement (keyword keywords.Require) = Some requirement_at
pick_statement (keyword keywords.Operationalise) = Some operationalisation_at
pick_statement (keyword keywords.Trace) = Some trace_at
pick_statement _ = None

statement_is : (ts : List TokenForm) → statement_at ts ≡ lead pick_statement nowhere ts
statement_is [] = refl
statement_is (keyword keywords.Var ∷ ts) = refl
statement_is (further furthers.Entity ∷ ts) = refl
statement_is (further furthers.Attr ∷ ts) = refl
statement_is (keyword keywords.Domain ∷ ts) = refl
statement_is (keyword keywords.Rule ∷ ts) = refl
statement_is (keyword keywords.Goal ∷ ts) = refl
statement_is (keyword keywords.Obstacle ∷ ts) = refl
statement_is (keyword keywords.Refine ∷ ts) = refl
statement_is (keyword keywords.Obstruct ∷ ts) = refl
statement_is (keyword keywords.Conflict ∷ ts) = refl
statement_is (keyword keywords.Agent ∷ ts) = refl
statement_is (keyword keywords.Assign ∷ ts) = refl
statement_is (keyword keywords.Expect ∷ ts) = refl
statement_is (keyword keywords.Operation ∷ ts) = refl
statement_is (keyword keywords.Require ∷ ts) = refl
statement_is (keyword keywords.Operationalise ∷ ts) = refl
statement_is (keyword keywords.Trace ∷ ts) = refl
statement_is (t ∷ ts) = refl

form : {v : Bool} {i : Type 0} {n : ℕ} {e : Ends} {s : List TokenForm} {read : Reader StatementForm} → ((us : List TokenForm) → e (mark Semicolon ∷ us) ≡ true) → Law v n e s read → Unit {0} × (i → SomeLaw v n at_semicolon read)
form {s = s} h law = (tt, λ _. record { start = s; law = ended h law })

statement_picked : (v : Bool) (n : ℕ) (t : TokenForm) → Picked v n at_semicolon t (pick_statement t)
statement_picked v n (keyword keywords.Var) = form (λ us. refl) (variable_law {e = anything})
statement_picked v n (further furthers.Entity) = form (λ us. refl) (entity_type_law {e = anything})
statement_picked v n (further furthers.Attr) = form (λ us. refl) (attribute_law {e = anything})
statement_picked v n (keyword keywords.Domain) = form (λ us. refl) (named_body_law domain)
statement_picked v n (keyword keywords.Rule) = form (λ us. refl) rule_law
statement_picked v n (keyword keywords.Goal) = form (λ us. refl) (named_body_law goal)
statement_picked v n (keyword keywords.Obstacle) = form (λ us. refl) (named_body_law obstacle)
statement_picked v n (keyword keywords.Refine) = form (λ us. refl) refinement_law
statement_picked v n (keyword keywords.Obstruct) = form (λ us. refl) obstruction_law
statement_picked v n (keyword keywords.Conflict) = form (λ us. refl) conflict_law
statement_picked v n (keyword keywords.Agent) = form (λ us. refl) agent_law
statement_picked v n (keyword keywords.Assign) = form (λ us. refl) (assignment_law {e = anything})
statement_picked v n (keyword keywords.Expect) = form (λ us. refl) (expectation_law {e = anything})
statement_picked v n (keyword keywords.Operation) = form (λ us. refl) operation_law
statement_picked v n (keyword keywords.Require) = form (λ us. refl) requirement_law
statement_picked v n (keyword keywords.Operationalise) = form (λ us. refl) operationalisation_law
statement_picked v n (keyword keywords.Trace) = form (λ us. refl) trace_law
statement_picked v n t = tt

-- the shortest statement
abbrev pub some_statement : List TokenForm
some_statement = keyword keywords.Var ∷ some_name ∷ mark Colon ∷ some_number ∷ mark Dots ∷ some_number ∷ []

pub statement_law : {v : Bool} {n : ℕ} → Law v n at_semicolon some_statement statement_at
statement_law {v} {n} = law_as statement_is (lead_only pick_statement variable_at (keyword keywords.Var) (omega arith) (statement_picked v n) (tt, tt) refl variable_law)
