-- What a spelled formula or statement is written with has small numbers, where what spells it has.
use Rattle.std.proofs.Common.{◌≡◌, ℕ, zero, suc, ◌≤◌, Bool, true, false, List, [], ◌∷◌, ◌++◌, Option, Some, refl, sym, ap, subst, ◌∙◌, arith}
use Rattle.std.specs.Prelude.{◌&&◌, nat_le, ℤ, pos, neg_ℤ, map, flat_map, decimal, if◌then◌else◌}
use Rattle.std.specs.List.{list_all}
use Rattle.std.proofs.lemmas.Bool.Decides.{nat_tests}
use Rattle.state_space.specs.declared.keyword.Keyword.{Keyword}
use Rattle.state_space.specs.declared.keyword.Keyword.TheVariants as keywords
use Rattle.state_space.specs.Ranges.{RangeForm}
use Rattle.model_tokens.specs.declared.token.Sign.TheVariants.{Semicolon, OpenParenthesis, CloseParenthesis, CloseBrace}
use Rattle.model_text.specs.declared.statement.Role.{Role}
use Rattle.model_tokens.specs.Tokens.{TokenForm, keyword, mark, name, number}
use Rattle.model_text.specs.RawTrees.{WrittenValue, a_word, a_number, a_truth, an_attribute as attribute_value, RawTree}
use Rattle.model_tokens.specs.Values.{cut_name, magnitude, number_value, bound_value}
use Rattle.model_text.specs.Leaves.{value_of}
use Rattle.model_text.specs.Statements.{Setting, StatementForm}
use Rattle.model_text.specs.FormulaGrammar.{Level, whole_level, iff_level, implies_level, or_level, and_level, tempo_level, prefix_level, SpellsValues, one_value, more_values, SpellsRight, a_value, an_attribute_value, SpellsFormula, a_truth, a_falsity, in_parentheses, a_flag, a_comparison, a_choice, a_flag_of, a_comparison_of, a_choice_of, a_universal, an_existential, a_primary, a_negation, a_next, an_eventually, an_always, an_eventually_within, an_always_within, a_prefix, an_until, an_unless, a_release, an_until_within, an_unless_within, a_release_within, a_tempo, a_conjunction, a_conjunct, a_disjunction, a_disjunct, an_implication, a_side, an_equivalence, a_whole, an_entailment}
use Rattle.model_text.specs.Limits.{is_small}
use Rattle.model_text.specs.Grammar.{SpellsNames, one_name, more_names, SpellsPart, no_part, a_part, SpellsPattern, no_pattern, a_pattern, SpellsExact, not_exact, is_exact, SpellsRole, a_pre, a_trig, a_post, SpellsRange, a_boolean, an_enumeration, a_span, SpellsSets, one_set, more_sets, SpellsState, an_empty_state, a_state, SpellsStates, no_state, one_more_state, SpellsStatement, a_variable, an_entity_type, an_attribute, a_domain, a_rule, a_goal, an_obstacle, a_refinement, an_obstruction, a_conflict, an_agent, an_assignment, an_expectation, an_operation, a_requirement, an_operationalisation, a_trace, SpellsStatements, no_statement, one_more, SpellsText, a_text, a_second_text}
use Rattle.model_text.specs.Writing.{number_token, value_token, right_tokens, tightness, enclosed, separated, names_tokens, values_tokens, within_tokens, whole_tokens, formula_tokens, range_tokens, part_tokens, pattern_tokens, exact_tokens, role_token, set_tokens, state_tokens, statement_tokens}
use Rattle.model_text.specs.Lines.{ended_tokens}
use Rattle.model_text.proofs.WrittenLeaves.{magnitude_again, bound_bounded}
use Rattle.model_text.proofs.WrittenFormulas.{more_is, no_attribute}
use Rattle.model_text.proofs.WrittenStatements.{more_names_is, part_is, more_sets_is}
use Rattle.model_text.proofs.ReadTokens.{AllOf, all_front, all_back, all_joined}

-- it is no number of a magnitude over 1,000,000,000
abbrev IsSmall : TokenForm → Type 0
IsSmall t = is_small t ≡ true

abbrev AreSmall : List TokenForm → Type 0
AreSmall = AllOf IsSmall

-- ---- leaves

small_decimal : (negative : Bool) (n : ℕ) → n ≤ 1000000000 → IsSmall (number negative (decimal n))
small_decimal negative n h = let few : n ≤ 1000000001 = omega arith in rw (magnitude_again n few) (grind (arith, nat_tests))

small_number : (s : Bool) (d : List ℕ) → IsSmall (number s d) → IsSmall (number_token (number_value s d))
unfolding number_value
small_number false d r = small_decimal false (magnitude d) (grind (arith, nat_tests))
small_number true d r = negative (magnitude d) (grind (arith, nat_tests))
  where
    negative : (n : ℕ) → n ≤ 1000000000 → IsSmall (number_token (neg_ℤ (pos n)))
    negative zero h = small_decimal false 0 h
    negative (suc n) h = small_decimal true (suc n) h

small_bound : (s : Bool) (d : List ℕ) → IsSmall (number false (decimal (bound_value s d)))
small_bound s d = let few = bound_bounded s d in small_decimal false (bound_value s d) (omega arith)

small_value : (t : TokenForm) (v : WrittenValue) → value_of t ≡ Some v → IsSmall t → IsSmall (value_token v)
small_value (name x) (a_word y) e r = refl
small_value (number s d) (a_number n) e r = let is : number_value s d ≡ n = cc in subst (λ (z : ℤ). IsSmall (number_token z)) is (small_number s d r)
small_value t (a_truth true) e r = refl
small_value t (a_truth false) e r = refl
small_value (keyword keywords.True) (a_word y) e r = absurd cc
small_value (keyword keywords.True) (a_number n) e r = absurd cc
small_value (keyword keywords.True) (attribute_value f y) e r = absurd cc
small_value (keyword keywords.False) (a_word y) e r = absurd cc
small_value (keyword keywords.False) (a_number n) e r = absurd cc
small_value (keyword keywords.False) (attribute_value f y) e r = absurd cc
small_value t v e r = absurd cc

-- ---- formulas

small_values : {ts : List TokenForm} {vs : List WrittenValue} → SpellsValues ts vs → AllOf IsSmall ts → AreSmall (values_tokens vs)
small_values (one_value t v e) r = (small_value t v e r.0, tt)
small_values (more_values t v ts vs e s) r = subst AreSmall (sym (more_is v s)) (small_value t v e r.0, (refl, small_values s r.1.1))

small_right : {ts : List TokenForm} {v : WrittenValue} → SpellsRight ts v → AllOf IsSmall ts → AreSmall (right_tokens v)
small_right (a_value t (a_word f) e) r = (small_value t (a_word f) e r.0, tt)
small_right (a_value t (a_number n) e) r = (small_value t (a_number n) e r.0, tt)
small_right (a_value t (a_truth b) e) r = (small_value t (a_truth b) e r.0, tt)
small_right (a_value t (attribute_value f x) e) r = absurd (no_attribute t f x e)
small_right (an_attribute_value f x) r = (refl, (refl, (refl, (refl, tt))))

small_enclosed : (asked own : Level) (ts : List TokenForm) → AreSmall ts → AreSmall (enclosed asked own ts)
small_enclosed asked own ts a = by_test (nat_le (tightness asked) (tightness own))
  where
    by_test : (b : Bool) → AreSmall (if b then ts else mark OpenParenthesis ∷ ts ++ mark CloseParenthesis ∷ [])
    by_test true = a
    by_test false = (refl, all_joined IsSmall ts (mark CloseParenthesis ∷ []) a (refl, tt))

small_formula : (asked : Level) {l : Level} {ts : List TokenForm} {f : RawTree} → SpellsFormula l ts f → AllOf IsSmall ts → AreSmall (formula_tokens asked f)
unfolding formula_tokens
small_formula asked a_truth r = (refl, tt)
small_formula asked a_falsity r = (refl, tt)
small_formula asked (in_parentheses {ts} s) r = small_formula asked s (all_front IsSmall ts (mark CloseParenthesis ∷ []) r.1)
small_formula asked (a_flag x) r = (refl, tt)
small_formula asked (a_comparison x m q e s) r = (refl, (refl, small_right s r.1.1))
small_formula asked (a_flag_of f x) r = (refl, (refl, (refl, (refl, tt))))
small_formula asked (a_comparison_of f x m q e s) r = (refl, (refl, (refl, (refl, (refl, small_right s r.1.1.1.1.1)))))
small_formula asked (a_choice_of f x {ts} {vs} s) r =
    (refl, (refl, (refl, (refl, (refl, (refl, all_joined IsSmall (values_tokens vs) (mark CloseBrace ∷ []) (small_values s (all_front IsSmall ts (mark CloseBrace ∷ []) r.1.1.1.1.1.1)) (refl, tt)))))))
small_formula asked (a_universal x k {ts} {f} s) r =
    small_enclosed asked prefix_level _ (refl, (refl, (refl, (refl, (refl, all_joined IsSmall (formula_tokens whole_level f) (mark CloseParenthesis ∷ []) (small_formula whole_level s (all_front IsSmall ts (mark CloseParenthesis ∷ []) r.1.1.1.1.1)) (refl, tt))))))
small_formula asked (an_existential x k {ts} {f} s) r =
    small_enclosed asked prefix_level _ (refl, (refl, (refl, (refl, (refl, all_joined IsSmall (formula_tokens whole_level f) (mark CloseParenthesis ∷ []) (small_formula whole_level s (all_front IsSmall ts (mark CloseParenthesis ∷ []) r.1.1.1.1.1)) (refl, tt))))))
small_formula asked (a_choice x {ts} {vs} s) r = (refl, (refl, (refl, all_joined IsSmall (values_tokens vs) (mark CloseBrace ∷ []) (small_values s (all_front IsSmall ts (mark CloseBrace ∷ []) r.1.1.1)) (refl, tt))))
small_formula asked (a_primary s) r = small_formula asked s r
small_formula asked (a_prefix s) r = small_formula asked s r
small_formula asked (a_tempo s) r = small_formula asked s r
small_formula asked (a_conjunct s) r = small_formula asked s r
small_formula asked (a_disjunct s) r = small_formula asked s r
small_formula asked (a_side s) r = small_formula asked s r
small_formula asked (a_whole s) r = small_formula asked s r
small_formula asked (a_negation s) r = small_enclosed asked prefix_level _ (refl, small_formula prefix_level s r.1)
small_formula asked (a_next s) r = small_enclosed asked prefix_level _ (refl, small_formula prefix_level s r.1)
small_formula asked (an_eventually s) r = small_enclosed asked prefix_level _ (refl, small_formula prefix_level s r.1)
small_formula asked (an_always s) r = small_enclosed asked prefix_level _ (refl, small_formula prefix_level s r.1)
small_formula asked (an_eventually_within q d s) r = small_enclosed asked prefix_level _ (refl, (refl, (small_bound q d, small_formula prefix_level s r.1.1.1)))
small_formula asked (an_always_within q d s) r = small_enclosed asked prefix_level _ (refl, (refl, (small_bound q d, small_formula prefix_level s r.1.1.1)))
small_formula asked (an_until {ts} {us} {f} {g} s t) r = small_enclosed asked tempo_level _ (all_joined IsSmall (formula_tokens prefix_level f) (keyword keywords.Until ∷ formula_tokens prefix_level g) (small_formula prefix_level s (all_front IsSmall ts (keyword keywords.Until ∷ us) r)) (refl, small_formula prefix_level t (all_back IsSmall ts (keyword keywords.Until ∷ us) r).1))
small_formula asked (an_unless {ts} {us} {f} {g} s t) r = small_enclosed asked tempo_level _ (all_joined IsSmall (formula_tokens prefix_level f) (keyword keywords.Unless ∷ formula_tokens prefix_level g) (small_formula prefix_level s (all_front IsSmall ts (keyword keywords.Unless ∷ us) r)) (refl, small_formula prefix_level t (all_back IsSmall ts (keyword keywords.Unless ∷ us) r).1))
small_formula asked (a_release {ts} {us} {f} {g} s t) r = small_enclosed asked tempo_level _ (all_joined IsSmall (formula_tokens prefix_level f) (keyword keywords.Release ∷ formula_tokens prefix_level g) (small_formula prefix_level s (all_front IsSmall ts (keyword keywords.Release ∷ us) r)) (refl, small_formula prefix_level t (all_back IsSmall ts (keyword keywords.Release ∷ us) r).1))
small_formula asked (a_conjunction {ts} {us} {f} {g} s t) r = small_enclosed asked and_level _ (all_joined IsSmall (formula_tokens and_level f) (keyword keywords.And ∷ formula_tokens tempo_level g) (small_formula and_level s (all_front IsSmall ts (keyword keywords.And ∷ us) r)) (refl, small_formula tempo_level t (all_back IsSmall ts (keyword keywords.And ∷ us) r).1))
small_formula asked (a_disjunction {ts} {us} {f} {g} s t) r = small_enclosed asked or_level _ (all_joined IsSmall (formula_tokens or_level f) (keyword keywords.Or ∷ formula_tokens and_level g) (small_formula or_level s (all_front IsSmall ts (keyword keywords.Or ∷ us) r)) (refl, small_formula and_level t (all_back IsSmall ts (keyword keywords.Or ∷ us) r).1))
small_formula asked (an_implication {ts} {us} {f} {g} s t) r = small_enclosed asked implies_level _ (all_joined IsSmall (formula_tokens or_level f) (keyword keywords.Implies ∷ formula_tokens implies_level g) (small_formula or_level s (all_front IsSmall ts (keyword keywords.Implies ∷ us) r)) (refl, small_formula implies_level t (all_back IsSmall ts (keyword keywords.Implies ∷ us) r).1))
small_formula asked (an_equivalence {ts} {us} {f} {g} s t) r = small_enclosed asked iff_level _ (all_joined IsSmall (formula_tokens implies_level f) (keyword keywords.Iff ∷ formula_tokens implies_level g) (small_formula implies_level s (all_front IsSmall ts (keyword keywords.Iff ∷ us) r)) (refl, small_formula implies_level t (all_back IsSmall ts (keyword keywords.Iff ∷ us) r).1))
small_formula asked (an_entailment {ts} {us} {f} {g} s t) r = small_enclosed asked whole_level _ (all_joined IsSmall (formula_tokens iff_level f) (keyword keywords.Entails ∷ formula_tokens iff_level g) (small_formula iff_level s (all_front IsSmall ts (keyword keywords.Entails ∷ us) r)) (refl, small_formula iff_level t (all_back IsSmall ts (keyword keywords.Entails ∷ us) r).1))
small_formula asked (an_until_within q d {ts} {us} {f} {g} s t) r = small_enclosed asked tempo_level _ (all_joined IsSmall (formula_tokens prefix_level f ++ keyword keywords.Until ∷ within_tokens (bound_value q d)) (formula_tokens prefix_level g) (all_joined IsSmall (formula_tokens prefix_level f) (keyword keywords.Until ∷ within_tokens (bound_value q d)) (small_formula prefix_level s (all_front IsSmall ts (keyword keywords.Until ∷ keyword keywords.Within ∷ number q d ∷ us) r)) (refl, (refl, (small_bound q d, tt)))) (small_formula prefix_level t (all_back IsSmall ts (keyword keywords.Until ∷ keyword keywords.Within ∷ number q d ∷ us) r).1.1.1))
small_formula asked (an_unless_within q d {ts} {us} {f} {g} s t) r = small_enclosed asked tempo_level _ (all_joined IsSmall (formula_tokens prefix_level f ++ keyword keywords.Unless ∷ within_tokens (bound_value q d)) (formula_tokens prefix_level g) (all_joined IsSmall (formula_tokens prefix_level f) (keyword keywords.Unless ∷ within_tokens (bound_value q d)) (small_formula prefix_level s (all_front IsSmall ts (keyword keywords.Unless ∷ keyword keywords.Within ∷ number q d ∷ us) r)) (refl, (refl, (small_bound q d, tt)))) (small_formula prefix_level t (all_back IsSmall ts (keyword keywords.Unless ∷ keyword keywords.Within ∷ number q d ∷ us) r).1.1.1))
small_formula asked (a_release_within q d {ts} {us} {f} {g} s t) r = small_enclosed asked tempo_level _ (all_joined IsSmall (formula_tokens prefix_level f ++ keyword keywords.Release ∷ within_tokens (bound_value q d)) (formula_tokens prefix_level g) (all_joined IsSmall (formula_tokens prefix_level f) (keyword keywords.Release ∷ within_tokens (bound_value q d)) (small_formula prefix_level s (all_front IsSmall ts (keyword keywords.Release ∷ keyword keywords.Within ∷ number q d ∷ us) r)) (refl, (refl, (small_bound q d, tt)))) (small_formula prefix_level t (all_back IsSmall ts (keyword keywords.Release ∷ keyword keywords.Within ∷ number q d ∷ us) r).1.1.1))

-- ---- statements

small_names : {ts : List TokenForm} {xs : List (List ℕ)} → SpellsNames ts xs → AllOf IsSmall ts → AreSmall (names_tokens xs)
small_names (one_name x) r = (refl, tt)
small_names (more_names x s) r = subst AreSmall (sym (more_names_is (cut_name x) s)) (refl, (refl, small_names s r.1.1))

small_part : {word : Keyword} {ts : List TokenForm} {xs : List (List ℕ)} → SpellsPart word ts xs → AllOf IsSmall ts → AreSmall (part_tokens word xs)
small_part no_part r = tt
small_part {word = word} (a_part s) r = subst AreSmall (sym (part_is word s)) (refl, small_names s r.1)

small_pattern : {ts : List TokenForm} {p : Option (List ℕ)} → SpellsPattern ts p → AllOf IsSmall ts → AreSmall (pattern_tokens p)
small_pattern no_pattern r = tt
small_pattern (a_pattern x) r = (refl, (refl, tt))

small_exact : {ts : List TokenForm} {e : Bool} → SpellsExact ts e → AreSmall (exact_tokens e)
small_exact not_exact = tt
small_exact is_exact = (refl, tt)

small_role : {t : TokenForm} {role : Role} → SpellsRole t role → IsSmall (role_token role)
small_role a_pre = refl
small_role a_trig = refl
small_role a_post = refl

small_range : {ts : List TokenForm} {range : RangeForm} → SpellsRange ts range → AllOf IsSmall ts → AreSmall (range_tokens range)
small_range a_boolean r = (refl, tt)
small_range (an_enumeration {ts} {xs} s) r = (refl, all_joined IsSmall (names_tokens xs) (mark CloseBrace ∷ []) (small_names s (all_front IsSmall ts (mark CloseBrace ∷ []) r.1)) (refl, tt))
small_range (a_span s t d e) r = (small_number s d r.0, (refl, (small_number t e r.1.1.0, tt)))

small_sets : {ts : List TokenForm} {sets : List Setting} → SpellsSets ts sets → AllOf IsSmall ts → AreSmall (separated (map set_tokens sets))
small_sets (one_set x t v e) r = (refl, (refl, (small_value t v e r.1.1.0, tt)))
small_sets (more_sets x t v e s) r =
    subst AreSmall (sym (more_sets_is (record { variable = cut_name x; value = v }) s)) (refl, (refl, (small_value t v e r.1.1.0, (refl, small_sets s r.1.1.1.1))))

small_state : {ts : List TokenForm} {sets : List Setting} → SpellsState ts sets → AllOf IsSmall ts → AreSmall (state_tokens sets)
small_state an_empty_state r = (refl, (refl, tt))
small_state (a_state {ts} {sets} s) r = (refl, all_joined IsSmall (separated (map set_tokens sets)) (mark CloseBrace ∷ []) (small_sets s (all_front IsSmall ts (mark CloseBrace ∷ []) r.1)) (refl, tt))

small_states : {ts : List TokenForm} {ss : List (List Setting)} → SpellsStates ts ss → AllOf IsSmall ts → AreSmall (flat_map state_tokens ss)
small_states no_state r = tt
small_states (one_more_state {ts} {us} {s} {ss} a b) r = all_joined IsSmall (state_tokens s) (flat_map state_tokens ss) (small_state a (all_front IsSmall ts us r)) (small_states b (all_back IsSmall ts us r))

small_statement : {ts : List TokenForm} {s : StatementForm} → SpellsStatement ts s → AllOf IsSmall ts → AreSmall (statement_tokens s)
unfolding statement_tokens
small_statement (a_variable x s) r = (refl, (refl, (refl, small_range s r.1.1.1)))
small_statement (an_entity_type x {ts} {xs} s) r =
    (refl, (refl, (refl, (refl, all_joined IsSmall (names_tokens xs) (mark CloseBrace ∷ []) (small_names s (all_front IsSmall ts (mark CloseBrace ∷ []) r.1.1.1.1)) (refl, tt)))))
small_statement (an_attribute x y s) r = (refl, (refl, (refl, (refl, (refl, small_range s r.1.1.1.1.1)))))
small_statement (a_domain x s) r = (refl, (refl, (refl, small_formula whole_level s r.1.1.1)))
small_statement (a_rule x {ts} {us} {f} {g} s t) r =
    (refl, (refl, (refl, all_joined IsSmall (formula_tokens iff_level f) (keyword keywords.Entails ∷ formula_tokens iff_level g) (small_formula iff_level s (all_front IsSmall ts (keyword keywords.Entails ∷ us) r.1.1.1)) (refl, small_formula iff_level t (all_back IsSmall ts (keyword keywords.Entails ∷ us) r.1.1.1).1))))
small_statement (a_goal x s) r = (refl, (refl, (refl, small_formula whole_level s r.1.1.1)))
small_statement (an_obstacle x s) r = (refl, (refl, (refl, small_formula whole_level s r.1.1.1)))
small_statement (a_refinement x {ts} {us} {xs} {p} s t) r =
    (refl, (refl, (refl, all_joined IsSmall (names_tokens xs) (pattern_tokens p) (small_names s (all_front IsSmall ts us r.1.1.1)) (small_pattern t (all_back IsSmall ts us r.1.1.1)))))
small_statement (an_obstruction x s) r = (refl, (refl, (refl, small_names s r.1.1.1)))
small_statement (a_conflict x y {ts} {us} {xs} {f} s t) r =
    let names = subst AreSmall (sym (more_names_is (cut_name y) s)) (refl, (refl, small_names s (all_front IsSmall ts (keyword keywords.Boundary ∷ us) r.1.1.1.1.1))) in
    (refl, (refl, (refl, all_joined IsSmall (names_tokens (cut_name y ∷ xs)) (keyword keywords.Boundary ∷ whole_tokens f) names (refl, small_formula whole_level t (all_back IsSmall ts (keyword keywords.Boundary ∷ us) r.1.1.1.1.1).1))))
small_statement (an_agent x {ts} {us} {xs} {ys} s t) r =
    (refl, (refl, all_joined IsSmall (part_tokens keywords.Monitors xs) (part_tokens keywords.Controls ys) (small_part s (all_front IsSmall ts us r.1.1)) (small_part t (all_back IsSmall ts us r.1.1))))
small_statement (an_assignment x y) r = (refl, (refl, (refl, (refl, tt))))
small_statement (an_expectation x y) r = (refl, (refl, (refl, (refl, tt))))
small_statement (an_operation x y {ts} {us} {f} {g} s t) r =
    (refl, (refl, (refl, (refl, (refl, all_joined IsSmall (whole_tokens f) (keyword keywords.Dompost ∷ whole_tokens g) (small_formula whole_level s (all_front IsSmall ts (keyword keywords.Dompost ∷ us) r.1.1.1.1.1)) (refl, small_formula whole_level t (all_back IsSmall ts (keyword keywords.Dompost ∷ us) r.1.1.1.1.1).1))))))
small_statement (a_requirement x y t q s) r = (refl, (refl, (refl, (refl, (small_role q, small_formula whole_level s r.1.1.1.1.1)))))
small_statement (an_operationalisation x {ts} {us} {xs} {e} s t) r =
    (refl, (refl, (refl, all_joined IsSmall (names_tokens xs) (exact_tokens e) (small_names s (all_front IsSmall ts us r.1.1.1)) (small_exact t))))
small_statement (a_trace x {ts} {us} {vs} {prefix} {cycle} {s} p q c) r =
    let front = all_front IsSmall (ts ++ keyword keywords.Loop ∷ us) vs r.1.1.1 in
    let states = all_joined IsSmall (state_tokens s) (flat_map state_tokens cycle) (small_state q (all_back IsSmall ts (keyword keywords.Loop ∷ us) front).1) (small_states c (all_back IsSmall (ts ++ keyword keywords.Loop ∷ us) vs r.1.1.1)) in
    (refl, (refl, (refl, all_joined IsSmall (flat_map state_tokens prefix) (keyword keywords.Loop ∷ flat_map state_tokens (s ∷ cycle)) (small_states p (all_front IsSmall ts (keyword keywords.Loop ∷ us) front)) (refl, states))))

-- ---- texts

small_statements : {ts : List TokenForm} {ss : List StatementForm} → SpellsStatements ts ss → AllOf IsSmall ts → AreSmall (flat_map ended_tokens ss)
small_statements no_statement r = tt
small_statements (one_more {ts} {us} {s} {ss} a b) r =
    all_joined IsSmall (ended_tokens s) (flat_map ended_tokens ss) (all_joined IsSmall (statement_tokens s) (mark Semicolon ∷ []) (small_statement a (all_front IsSmall ts (mark Semicolon ∷ us) r)) (refl, tt)) (small_statements b (all_back IsSmall ts (mark Semicolon ∷ us) r).1)

small_text : {ts : List TokenForm} {ss : List StatementForm} → SpellsText ts ss → AllOf IsSmall ts → AreSmall (flat_map ended_tokens ss)
unfolding statement_tokens
small_text (a_text b d is s) r = (refl, (small_decimal false 1 (omega arith), (refl, small_statements s r.1.1.1)))
small_text (a_second_text b d is s) r = (refl, (small_decimal false 2 (omega arith), (refl, small_statements s r.1.1.1)))

all_small : (ts : List TokenForm) → list_all is_small ts ≡ true → AreSmall ts
all_small [] e = tt
all_small (t ∷ ts) e = let both = and_parts (is_small t) (list_all is_small ts) e in (both.0, all_small ts both.1)
  where
    and_parts : (a b : Bool) → (a && b) ≡ true → (a ≡ true) × (b ≡ true)
    and_parts true b e = (refl, e)
    and_parts false b e = absurd cc

are_small : (ts : List TokenForm) → AreSmall ts → list_all is_small ts ≡ true
are_small [] a = refl
are_small (t ∷ ts) a = ap (λ (b : Bool). b && list_all is_small ts) a.0 ∙ are_small ts a.1

-- the tokens of a text's statements have small numbers, where the text has
pub text_is_small : {ts : List TokenForm} {ss : List StatementForm} → SpellsText ts ss → list_all is_small ts ≡ true → list_all is_small (flat_map ended_tokens ss) ≡ true
text_is_small {ts = ts} {ss = ss} s e = are_small (flat_map ended_tokens ss) (small_text s (all_small ts e))
