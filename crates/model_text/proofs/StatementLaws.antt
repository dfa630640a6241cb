-- Statements are read exactly as they are spelled.
use Rattle.std.proofs.Common.{◌≡◌, List, [], ◌∷◌, ◌++◌, Ok, refl, ap, append_assoc}
use Rattle.state_space.specs.declared.keyword.Keyword.{Keyword}
use Rattle.state_space.specs.declared.keyword.Keyword.TheVariants as keywords
use Rattle.model_tokens.specs.declared.token.Sign.TheVariants.{Semicolon}
use Rattle.model_tokens.specs.declared.token.Further.{Further}
use Rattle.model_tokens.specs.declared.token.Further.TheVariants as furthers
use Rattle.model_tokens.specs.Tokens.{TokenForm, keyword, mark, further}
use Rattle.model_text.specs.Statements.{StatementForm}
use Rattle.model_text.specs.Grammar.{SpellsStatement, a_variable, an_entity_type, an_attribute, a_domain, a_rule, a_goal, an_obstacle, a_refinement, an_obstruction, a_conflict, an_agent, an_assignment, an_expectation, an_operation, a_requirement, an_operationalisation, a_trace}
use Rattle.model_text.specs.Reading.{name_at}
use Rattle.model_text.specs.Readers.{Reader, after, counted}
use Rattle.model_text.specs.StatementReading.{declared_name_at, pair_at, body_behind, variable_at, entity_type_at, attribute_at, named_body_at, rule_at, refinement_at, obstruction_at, conflict_at, agent_at, assignment_at, expectation_at, operation_at, requirement_at, operationalisation_at, trace_at, statement_at}
use Rattle.model_text.proofs.PartLaws.{Found, Finds}
use Rattle.model_text.proofs.NameLaws.{group_read, part_read, body_read, side_read}
use Rattle.model_text.proofs.PropertyLaws.{range_read, members_read, variable_at-ok, entity_type_at-ok, attribute_at-ok, domain_at-ok, rule_at-ok, goal_at-ok, obstacle_at-ok}
use Rattle.model_text.proofs.LinkLaws.{pattern_ends, pattern_read, exact_ends, exact_read, role_read, several_read, controls_end, refinement_at-ok, obstruction_at-ok, conflict_at-ok, agent_at-ok, assignment_at-ok, expectation_at-ok, operation_at-ok, requirement_at-ok, operationalisation_at-ok}
use Rattle.model_text.proofs.TraceLaws.{states_read, cycle_read, trace_at-ok}

-- ---- what is read is spelled

-- what was read behind the keyword of its form
begun : (word : Keyword) {read : Reader StatementForm} → Finds (λ us s. SpellsStatement (keyword word ∷ us) s) read → (ts : List TokenForm) (s : StatementForm) (rest : List TokenForm)
    → read ts ≡ Ok (s, rest) → Found SpellsStatement (keyword word ∷ ts) s rest
begun word form ts s rest e =
    let f = form.found ts s rest e in
    record { tokens = keyword word ∷ f.tokens; spelled = f.spelled; is = ap (λ (us : List TokenForm). keyword word ∷ us) f.is }

-- the same behind a keyword of version 2
begun_further : (word : Further) {read : Reader StatementForm} → Finds (λ us s. SpellsStatement (further word ∷ us) s) read → (ts : List TokenForm) (s : StatementForm) (rest : List TokenForm)
    → read ts ≡ Ok (s, rest) → Found SpellsStatement (further word ∷ ts) s rest
begun_further word form ts s rest e =
    let f = form.found ts s rest e in
    record { tokens = further word ∷ f.tokens; spelled = f.spelled; is = ap (λ (us : List TokenForm). further word ∷ us) f.is }

begun_so : (ts : List TokenForm) (s : StatementForm) (rest : List TokenForm) → statement_at ts ≡ Ok (s, rest) → Found SpellsStatement ts s rest
begun_so (keyword keywords.Var ∷ ts) s rest e = begun keywords.Var variable_at-ok ts s rest e
begun_so (further furthers.Entity ∷ ts) s rest e = begun_further furthers.Entity entity_type_at-ok ts s rest e
begun_so (further furthers.Attr ∷ ts) s rest e = begun_further furthers.Attr attribute_at-ok ts s rest e
begun_so (keyword keywords.Domain ∷ ts) s rest e = begun keywords.Domain domain_at-ok ts s rest e
begun_so (keyword keywords.Rule ∷ ts) s rest e = begun keywords.Rule rule_at-ok ts s rest e
begun_so (keyword keywords.Goal ∷ ts) s rest e = begun keywords.Goal goal_at-ok ts s rest e
begun_so (keyword keywords.Obstacle ∷ ts) s rest e = begun keywords.Obstacle obstacle_at-ok ts s rest e
begun_so (keyword keywords.Refine ∷ ts) s rest e = begun keywords.Refine refinement_at-ok ts s rest e
begun_so (keyword keywords.Obstruct ∷ ts) s rest e = begun keywords.Obstruct obstruction_at-ok ts s rest e
begun_so (keyword keywords.Conflict ∷ ts) s rest e = begun keywords.Conflict conflict_at-ok ts s rest e
begun_so (keyword keywords.Agent ∷ ts) s rest e = begun keywords.Agent agent_at-ok ts s rest e
begun_so (keyword keywords.Assign ∷ ts) s rest e = begun keywords.Assign assignment_at-ok ts s rest e
begun_so (keyword keywords.Expect ∷ ts) s rest e = begun keywords.Expect expectation_at-ok ts s rest e
begun_so (keyword keywords.Operation ∷ ts) s rest e = begun keywords.Operation operation_at-ok ts s rest e
begun_so (keyword keywords.Require ∷ ts) s rest e = begun keywords.Require requirement_at-ok ts s rest e
begun_so (keyword keywords.Operationalise ∷ ts) s rest e = begun keywords.Operationalise operationalisation_at-ok ts s rest e
begun_so (keyword keywords.Trace ∷ ts) s rest e = begun keywords.Trace trace_at-ok ts s rest e
begun_so [] s rest e = absurd cc
begun_so (t ∷ ts) s rest e = absurd cc

pub statement_at-ok : Finds SpellsStatement statement_at
statement_at-ok = record { found = begun_so }

-- ---- what is spelled is read

pub statement_read : {ts : List TokenForm} {s : StatementForm} → SpellsStatement ts s → (rest : List TokenForm) → statement_at (ts ++ mark Semicolon ∷ rest) ≡ Ok (s, mark Semicolon ∷ rest)
unfolding declared_name_at pair_at body_behind variable_at entity_type_at attribute_at named_body_at rule_at refinement_at obstruction_at conflict_at agent_at assignment_at expectation_at operation_at requirement_at operationalisation_at trace_at after counted name_at
statement_read (a_variable x r) rest = rw (range_read r (mark Semicolon ∷ rest)) refl
statement_read (an_entity_type x n) rest = rw (members_read n (mark Semicolon ∷ rest)) refl
statement_read (an_attribute x y r) rest = rw (range_read r (mark Semicolon ∷ rest)) refl
statement_read (a_domain x f) rest = rw (body_read f (mark Semicolon ∷ rest) refl) refl
statement_read (a_rule x {ts = ts} {us = us} f g) rest =
    rw (append_assoc ts (keyword keywords.Entails ∷ us) (mark Semicolon ∷ rest), side_read f (keyword keywords.Entails ∷ us ++ mark Semicolon ∷ rest) refl, side_read g (mark Semicolon ∷ rest) refl) refl
statement_read (a_goal x f) rest = rw (body_read f (mark Semicolon ∷ rest) refl) refl
statement_read (an_obstacle x f) rest = rw (body_read f (mark Semicolon ∷ rest) refl) refl
statement_read (a_refinement x {ts = ts} {us = us} n p) rest =
    rw (append_assoc ts us (mark Semicolon ∷ rest), group_read x n (us ++ mark Semicolon ∷ rest) (pattern_ends p rest), pattern_read p rest) refl
statement_read (an_obstruction x n) rest = rw (group_read x n (mark Semicolon ∷ rest) refl) refl
statement_read (a_conflict x y {ts = ts} {us = us} n f) rest =
    rw (append_assoc ts (keyword keywords.Boundary ∷ us) (mark Semicolon ∷ rest), several_read y n (keyword keywords.Boundary ∷ us ++ mark Semicolon ∷ rest) refl, body_read f (mark Semicolon ∷ rest) refl) refl
statement_read (an_agent x {ts = ts} {us = us} m c) rest =
    let ends = controls_end c rest in
    rw (append_assoc ts us (mark Semicolon ∷ rest), part_read m (us ++ mark Semicolon ∷ rest) ends.0 ends.1, part_read c (mark Semicolon ∷ rest) refl refl) refl
statement_read (an_assignment x y) rest = refl
statement_read (an_expectation x y) rest = refl
statement_read (an_operation x y {ts = ts} {us = us} f g) rest =
    rw (append_assoc ts (keyword keywords.Dompost ∷ us) (mark Semicolon ∷ rest), body_read f (keyword keywords.Dompost ∷ us ++ mark Semicolon ∷ rest) refl, body_read g (mark Semicolon ∷ rest) refl) refl
statement_read (a_requirement x y t {ts = ts} r f) rest = rw (role_read r (ts ++ mark Semicolon ∷ rest), body_read f (mark Semicolon ∷ rest) refl) refl
statement_read (an_operationalisation x {ts = ts} {us = us} n e) rest =
    rw (append_assoc ts us (mark Semicolon ∷ rest), group_read x n (us ++ mark Semicolon ∷ rest) (exact_ends e rest), exact_read e rest) refl
statement_read (a_trace x {ts = ts} {us = us} {vs = vs} p s c) rest =
    rw (append_assoc ts (keyword keywords.Loop ∷ us) vs, append_assoc ts (keyword keywords.Loop ∷ us ++ vs) (mark Semicolon ∷ rest), states_read p (keyword keywords.Loop ∷ (us ++ vs) ++ mark Semicolon ∷ rest) refl, cycle_read s c (mark Semicolon ∷ rest) refl) refl
