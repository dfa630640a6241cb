-- What a statement is written with spells the same statement, and so do lists of statements and texts.
use Rattle.std.proofs.Common.{◌≡◌, ℕ, Bool, false, List, [], ◌∷◌, ◌++◌, Option, Some, refl, sym, subst, append_assoc}
use Rattle.std.specs.Prelude.{ℤ, map, flat_map, decimal}
use Rattle.state_space.specs.declared.keyword.Keyword.{Keyword}
use Rattle.state_space.specs.declared.keyword.Keyword.TheVariants as keywords
use Rattle.state_space.specs.Ranges.{RangeForm, span}
use Rattle.model_tokens.specs.declared.token.Sign.TheVariants.{Semicolon, Colon, Comma, Equal, Dots}
use Rattle.model_text.specs.declared.statement.Role.{Role}
use Rattle.model_tokens.specs.Tokens.{TokenForm, keyword, mark, name, number}
use Rattle.model_tokens.specs.Values.{cut_name, number_value}
use Rattle.model_text.specs.FormulaGrammar.{whole_level, iff_level}
use Rattle.model_text.specs.Statements.{Setting, StatementForm, variable, entity_type, attribute, domain, rule, goal, obstacle, refinement, obstruction, conflict, agent, assignment, expectation, operation, requirement, operationalisation, trace}
use Rattle.model_text.specs.Grammar.{SpellsNames, one_name, more_names, SpellsPart, no_part, a_part, SpellsPattern, no_pattern, a_pattern, SpellsExact, not_exact, is_exact, SpellsRole, a_pre, a_trig, a_post, SpellsRange, a_boolean, an_enumeration, a_span, SpellsSets, one_set, more_sets, SpellsState, an_empty_state, a_state, SpellsStates, no_state, one_more_state, SpellsStatement, a_variable, an_entity_type, an_attribute, a_domain, a_rule, a_goal, an_obstacle, a_refinement, an_obstruction, a_conflict, an_agent, an_assignment, an_expectation, an_operation, a_requirement, an_operationalisation, a_trace, SpellsStatements, no_statement, one_more, SpellsText, a_text, a_second_text}
use Rattle.model_text.specs.Writing.{number_token, value_token, separated, names_tokens, whole_tokens, range_tokens, part_tokens, pattern_tokens, exact_tokens, role_token, set_tokens, state_tokens, statement_tokens}
use Rattle.model_text.specs.Lines.{ended_tokens}
use Rattle.model_text.proofs.WrittenLeaves.{cut_again, number_again, value_again, one_again, two_again}
use Rattle.model_text.proofs.WrittenFormulas.{written_spells}

-- ---- parts

-- a name of a spelled list is a name that was cut
same_name : (P : List ℕ → Type 0) (x : List ℕ) → P (cut_name (cut_name x)) → P (cut_name x)
same_name P x p = subst P (cut_again x) p

pub more_names_is : {ts : List TokenForm} {xs : List (List ℕ)} (x : List ℕ) → SpellsNames ts xs → names_tokens (x ∷ xs) ≡ name x ∷ mark Comma ∷ names_tokens xs
more_names_is x (one_name y) = refl
more_names_is x (more_names y s) = refl

written_names : {ts : List TokenForm} {xs : List (List ℕ)} → SpellsNames ts xs → SpellsNames (names_tokens xs) xs
written_names (one_name x) = same_name (λ y. SpellsNames (name (cut_name x) ∷ []) (y ∷ [])) x (one_name (cut_name x))
written_names (more_names x {ts} {xs} s) =
    subst (λ (us : List TokenForm). SpellsNames us (cut_name x ∷ xs)) (sym (more_names_is (cut_name x) s))
    (same_name (λ y. SpellsNames (name (cut_name x) ∷ mark Comma ∷ names_tokens xs) (y ∷ xs)) x (more_names (cut_name x) (written_names s)))

pub part_is : {ts : List TokenForm} {xs : List (List ℕ)} (word : Keyword) → SpellsNames ts xs → part_tokens word xs ≡ keyword word ∷ names_tokens xs
part_is word (one_name y) = refl
part_is word (more_names y s) = refl

written_part : {word : Keyword} {ts : List TokenForm} {xs : List (List ℕ)} → SpellsPart word ts xs → SpellsPart word (part_tokens word xs) xs
written_part no_part = no_part
written_part {word = word} (a_part {ts} {xs} s) = subst (λ (us : List TokenForm). SpellsPart word us xs) (sym (part_is word s)) (a_part (written_names s))

written_pattern : {ts : List TokenForm} {p : Option (List ℕ)} → SpellsPattern ts p → SpellsPattern (pattern_tokens p) p
written_pattern no_pattern = no_pattern
written_pattern (a_pattern x) = same_name (λ y. SpellsPattern (keyword keywords.Using ∷ name (cut_name x) ∷ []) (Some y)) x (a_pattern (cut_name x))

written_exact : {ts : List TokenForm} {e : Bool} → SpellsExact ts e → SpellsExact (exact_tokens e) e
written_exact not_exact = not_exact
written_exact is_exact = is_exact

written_role : {t : TokenForm} {role : Role} → SpellsRole t role → SpellsRole (role_token role) role
written_role a_pre = a_pre
written_role a_trig = a_trig
written_role a_post = a_post

written_range : {ts : List TokenForm} {r : RangeForm} → SpellsRange ts r → SpellsRange (range_tokens r) r
written_range a_boolean = a_boolean
written_range (an_enumeration s) = an_enumeration (written_names s)
written_range (a_span s t d e) = spanned (number_value s d) (number_value t e) (number_again s d) (number_again t e)
  where
    spanned : (low high : ℤ) → ((b : Bool) × (f : List ℕ) × (number_token low ≡ number b f) × (number_value b f ≡ low)) → ((b : Bool) × (f : List ℕ) × (number_token high ≡ number b f) × (number_value b f ≡ high))
        → SpellsRange (number_token low ∷ mark Dots ∷ number_token high ∷ []) (span low high)
    spanned low high p q = rw (p.2, q.2) (subst (λ (n : ℤ). SpellsRange (number p.0 p.1 ∷ mark Dots ∷ number q.0 q.1 ∷ []) (span n high)) p.3 (subst (λ (n : ℤ). SpellsRange (number p.0 p.1 ∷ mark Dots ∷ number q.0 q.1 ∷ []) (span (number_value p.0 p.1) n)) q.3 (a_span p.0 q.0 p.1 q.1)))

pub more_sets_is : {ts : List TokenForm} {sets : List Setting} (s : Setting) → SpellsSets ts sets → separated (map set_tokens (s ∷ sets)) ≡ name s.variable ∷ mark Equal ∷ value_token s.value ∷ mark Comma ∷ separated (map set_tokens sets)
more_sets_is s (one_set x t v e) = refl
more_sets_is s (more_sets x t v e r) = refl

written_sets : {ts : List TokenForm} {sets : List Setting} → SpellsSets ts sets → SpellsSets (separated (map set_tokens sets)) sets
written_sets (one_set x t v e) =
    same_name (λ y. SpellsSets (name (cut_name x) ∷ mark Equal ∷ value_token v ∷ []) ((record { variable = y; value = v }) ∷ [])) x (one_set (cut_name x) (value_token v) v (value_again t v e))
written_sets (more_sets x t v {ts} {sets} e s) =
    subst (λ (us : List TokenForm). SpellsSets us ((record { variable = cut_name x; value = v }) ∷ sets)) (sym (more_sets_is (record { variable = cut_name x; value = v }) s))
    (same_name (λ y. SpellsSets (name (cut_name x) ∷ mark Equal ∷ value_token v ∷ mark Comma ∷ separated (map set_tokens sets)) ((record { variable = y; value = v }) ∷ sets)) x (more_sets (cut_name x) (value_token v) v (value_again t v e) (written_sets s)))

written_state : {ts : List TokenForm} {sets : List Setting} → SpellsState ts sets → SpellsState (state_tokens sets) sets
written_state an_empty_state = an_empty_state
written_state (a_state s) = a_state (written_sets s)

written_states : {ts : List TokenForm} {ss : List (List Setting)} → SpellsStates ts ss → SpellsStates (flat_map state_tokens ss) ss
written_states no_state = no_state
written_states (one_more_state s r) = one_more_state (written_state s) (written_states r)

-- ---- statements

-- two names that were cut
same_names : (P : List ℕ → List ℕ → Type 0) (x y : List ℕ) → P (cut_name (cut_name x)) (cut_name (cut_name y)) → P (cut_name x) (cut_name y)
same_names P x y p = subst (λ (z : List ℕ). P z (cut_name y)) (cut_again x) (subst (λ (z : List ℕ). P (cut_name (cut_name x)) z) (cut_again y) p)

pub written_statement_spells : {ts : List TokenForm} {s : StatementForm} → SpellsStatement ts s → SpellsStatement (statement_tokens s) s
unfolding statement_tokens
written_statement_spells (a_variable x {ts} {r} s) = same_name (λ y. SpellsStatement (statement_tokens (variable (cut_name x) r)) (variable y r)) x (a_variable (cut_name x) (written_range s))
written_statement_spells (an_entity_type x {ts} {xs} s) = same_name (λ y. SpellsStatement (statement_tokens (entity_type (cut_name x) xs)) (entity_type y xs)) x (an_entity_type (cut_name x) (written_names s))
written_statement_spells (an_attribute x y {ts} {r} s) = same_names (λ z w. SpellsStatement (statement_tokens (attribute (cut_name x) (cut_name y) r)) (attribute z w r)) x y (an_attribute (cut_name x) (cut_name y) (written_range s))
written_statement_spells (a_domain x {ts} {f} s) = same_name (λ y. SpellsStatement (statement_tokens (domain (cut_name x) f)) (domain y f)) x (a_domain (cut_name x) (written_spells whole_level s))
written_statement_spells (a_rule x {ts} {us} {f} {g} s t) =
    same_name (λ y. SpellsStatement (statement_tokens (rule (cut_name x) f g)) (rule y f g)) x (a_rule (cut_name x) (written_spells iff_level s) (written_spells iff_level t))
written_statement_spells (a_goal x {ts} {f} s) = same_name (λ y. SpellsStatement (statement_tokens (goal (cut_name x) f)) (goal y f)) x (a_goal (cut_name x) (written_spells whole_level s))
written_statement_spells (an_obstacle x {ts} {f} s) = same_name (λ y. SpellsStatement (statement_tokens (obstacle (cut_name x) f)) (obstacle y f)) x (an_obstacle (cut_name x) (written_spells whole_level s))
written_statement_spells (a_refinement x {ts} {us} {xs} {p} s t) =
    same_name (λ y. SpellsStatement (statement_tokens (refinement (cut_name x) xs p)) (refinement y xs p)) x (a_refinement (cut_name x) (written_names s) (written_pattern t))
written_statement_spells (an_obstruction x {ts} {xs} s) = same_name (λ y. SpellsStatement (statement_tokens (obstruction (cut_name x) xs)) (obstruction y xs)) x (an_obstruction (cut_name x) (written_names s))
written_statement_spells (a_conflict x y {ts} {us} {xs} {f} s t) =
    subst (λ (vs : List TokenForm). SpellsStatement (keyword keywords.Conflict ∷ name (cut_name x) ∷ mark Colon ∷ vs ++ keyword keywords.Boundary ∷ whole_tokens f) (conflict (cut_name x) (cut_name y ∷ xs) f)) (sym (more_names_is (cut_name y) s))
    (same_names (λ z w. SpellsStatement (keyword keywords.Conflict ∷ name (cut_name x) ∷ mark Colon ∷ name (cut_name y) ∷ mark Comma ∷ names_tokens xs ++ keyword keywords.Boundary ∷ whole_tokens f) (conflict z (w ∷ xs) f)) x y (a_conflict (cut_name x) (cut_name y) (written_names s) (written_spells whole_level t)))
written_statement_spells (an_agent x {ts} {us} {xs} {ys} s t) =
    same_name (λ y. SpellsStatement (statement_tokens (agent (cut_name x) xs ys)) (agent y xs ys)) x (an_agent (cut_name x) (written_part s) (written_part t))
written_statement_spells (an_assignment x y) = same_names (λ z w. SpellsStatement (statement_tokens (assignment (cut_name x) (cut_name y))) (assignment z w)) x y (an_assignment (cut_name x) (cut_name y))
written_statement_spells (an_expectation x y) = same_names (λ z w. SpellsStatement (statement_tokens (expectation (cut_name x) (cut_name y))) (expectation z w)) x y (an_expectation (cut_name x) (cut_name y))
written_statement_spells (an_operation x y {ts} {us} {f} {g} s t) =
    same_names (λ z w. SpellsStatement (statement_tokens (operation (cut_name x) (cut_name y) f g)) (operation z w f g)) x y (an_operation (cut_name x) (cut_name y) (written_spells whole_level s) (written_spells whole_level t))
written_statement_spells (a_requirement x y t {role} {ts} {f} r s) =
    same_names (λ z w. SpellsStatement (statement_tokens (requirement (cut_name x) (cut_name y) role f)) (requirement z w role f)) x y (a_requirement (cut_name x) (cut_name y) (role_token role) (written_role r) (written_spells whole_level s))
written_statement_spells (an_operationalisation x {ts} {us} {xs} {e} s t) =
    same_name (λ y. SpellsStatement (statement_tokens (operationalisation (cut_name x) xs e)) (operationalisation y xs e)) x (an_operationalisation (cut_name x) (written_names s) (written_exact t))
written_statement_spells (a_trace x {ts} {us} {vs} {prefix} {cycle} {s} p q r) =
    same_name (λ y. SpellsStatement (statement_tokens (trace (cut_name x) prefix (s ∷ cycle))) (trace y prefix (s ∷ cycle))) x
    (subst (λ (ws : List TokenForm). SpellsStatement (keyword keywords.Trace ∷ name (cut_name x) ∷ mark Colon ∷ ws) (trace (cut_name (cut_name x)) prefix (s ∷ cycle))) (append_assoc (flat_map state_tokens prefix) (keyword keywords.Loop ∷ state_tokens s) (flat_map state_tokens cycle))
    (a_trace (cut_name x) (written_states p) (written_state q) (written_states r)))

-- ---- texts

pub written_statements_spell : {ts : List TokenForm} {ss : List StatementForm} → SpellsStatements ts ss → SpellsStatements (flat_map ended_tokens ss) ss
written_statements_spell no_statement = no_statement
written_statements_spell (one_more {ts} {us} {s} {ss} a r) =
    subst (λ (vs : List TokenForm). SpellsStatements vs (s ∷ ss)) (sym (append_assoc (statement_tokens s) (mark Semicolon ∷ []) (flat_map ended_tokens ss))) (one_more (written_statement_spells a) (written_statements_spell r))

pub written_text_spells : {ts : List TokenForm} {ss : List StatementForm} → SpellsText ts ss → SpellsText (flat_map ended_tokens ss) ss
unfolding statement_tokens
written_text_spells (a_text b d {ts} {ss} is s) = a_text false (decimal 1) one_again (written_statements_spell s)
written_text_spells (a_second_text b d {ts} {ss} is s) = a_second_text false (decimal 2) two_again (written_statements_spell s)
