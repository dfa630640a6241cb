-- What a spelled formula or statement is written with can stand in a text, with names of at most 40 bytes.
use Rattle.std.proofs.Common.{◌≡◌, ℕ, zero, suc, ◌+◌, ◌<◌, ◌≤◌, Bool, true, false, List, [], ◌∷◌, ◌++◌, length, Option, Some, refl, sym, ap, subst, ◌∙◌, arith}
use Rattle.std.specs.Prelude.{◌%◌, ◌^◌, ◌&&◌, nat_le, ℤ, pos, neg_ℤ, map, flat_map, decimal, is_none, if◌then◌else◌}
use Rattle.std.specs.List.{list_all}
use Rattle.std.specs.Char.{is_ascii_digit}
use Rattle.std.proofs.lemmas.Bool.Decides.{nat_tests}
use Rattle.std.proofs.lemmas.Fmt.{decimal_by_steps, decimal_nonempty}
use Rattle.state_space.specs.declared.keyword.Keyword.{Keyword}
use Rattle.state_space.specs.declared.keyword.Keyword.TheVariants as keywords
use Rattle.state_space.specs.Keywords.{keyword_of}
use Rattle.state_space.specs.Ranges.{RangeForm}
use Rattle.model_tokens.specs.declared.token.Sign.TheVariants.{Semicolon, OpenParenthesis, CloseParenthesis, CloseBrace}
use Rattle.model_text.specs.declared.statement.Role.{Role}
use Rattle.model_tokens.specs.Tokens.{TokenForm, keyword, mark, name, number}
use Rattle.model_text.specs.RawTrees.{WrittenValue, a_word, a_number, a_truth, an_attribute as attribute_value, RawTree}
use Rattle.model_tokens.specs.Values.{cut_name, magnitude, number_value, bound_value}
use Rattle.model_text.specs.Leaves.{value_of}
use Rattle.model_text.specs.Statements.{Setting, StatementForm}
use Rattle.model_text.specs.FormulaGrammar.{Level, whole_level, iff_level, implies_level, or_level, and_level, tempo_level, prefix_level, SpellsValues, one_value, more_values, SpellsRight, a_value, an_attribute_value, SpellsFormula, a_truth, a_falsity, in_parentheses, a_flag, a_comparison, a_choice, a_flag_of, a_comparison_of, a_choice_of, a_universal, an_existential, a_primary, a_negation, a_next, an_eventually, an_always, an_eventually_within, an_always_within, a_prefix, an_until, an_unless, a_release, an_until_within, an_unless_within, a_release_within, a_tempo, a_conjunction, a_conjunct, a_disjunction, a_disjunct, an_implication, a_side, an_equivalence, a_whole, an_entailment}
use Rattle.model_text.specs.Limits.{is_short}
use Rattle.model_text.specs.Grammar.{SpellsNames, one_name, more_names, SpellsPart, no_part, a_part, SpellsPattern, no_pattern, a_pattern, SpellsExact, not_exact, is_exact, SpellsRole, a_pre, a_trig, a_post, SpellsRange, a_boolean, an_enumeration, a_span, SpellsSets, one_set, more_sets, SpellsState, an_empty_state, a_state, SpellsStates, no_state, one_more_state, SpellsStatement, a_variable, an_entity_type, an_attribute, a_domain, a_rule, a_goal, an_obstacle, a_refinement, an_obstruction, a_conflict, an_agent, an_assignment, an_expectation, an_operation, a_requirement, an_operationalisation, a_trace, SpellsStatements, no_statement, one_more, SpellsText, a_text, a_second_text}
use Rattle.model_text.specs.Writing.{number_token, value_token, right_tokens, tightness, enclosed, separated, names_tokens, values_tokens, within_tokens, whole_tokens, formula_tokens, range_tokens, part_tokens, pattern_tokens, exact_tokens, role_token, set_tokens, state_tokens, statement_tokens}
use Rattle.model_text.specs.Lines.{ended_tokens}
use Rattle.model_text.specs.Writable.{IsWritable, AreWritable}
use Rattle.model_tokens.proofs.CutNames.{cut_is_name, cut_further}
use Rattle.model_text.proofs.WrittenLeaves.{magnitude_bounded, bound_bounded}
use Rattle.model_text.proofs.WrittenFormulas.{more_is, no_attribute}
use Rattle.model_text.proofs.WrittenStatements.{more_names_is, part_is, more_sets_is}
use Rattle.model_text.proofs.ReadTokens.{AllOf, all_front, all_back, all_joined, IsRead}

module _ (second : Bool) where
  -- it can stand in a text, and is no long name
  abbrev IsGood : TokenForm → Type 0
  IsGood t = IsWritable second t × (is_short t ≡ true)

  abbrev AreGood : List TokenForm → Type 0
  AreGood = AllOf IsGood

  -- ---- leaves

  good_name : (x : List ℕ) → (IsRead second) (name x) → IsGood (name (cut_name x))
  good_name x r =
      let free : is_none (keyword_of x) ≡ true = ap is_none r.1 in
      let is = cut_is_name x r.0 free in
      let short : length (cut_name x) ≤ 40 = is.short in
      ((is.form, is.free, λ e. cut_further x (r.2 e)), grind (arith, nat_tests))

  last_digit : (digits : List ℕ) (d : ℕ) → list_all is_ascii_digit digits ≡ true → is_ascii_digit d ≡ true → list_all is_ascii_digit (digits ++ d ∷ []) ≡ true
  last_digit [] d e f = rw f refl
  last_digit (c ∷ digits) d e f = both (is_ascii_digit c) (list_all is_ascii_digit digits) (list_all is_ascii_digit (digits ++ d ∷ [])) e (λ more. last_digit digits d more f)
    where
      both : (a b c : Bool) → (a && b) ≡ true → (b ≡ true → c ≡ true) → (a && c) ≡ true
      both true b c e f = f e
      both false b c e f = e

  a_digit : (n : ℕ) → n < 10 → is_ascii_digit (48 + n) ≡ true
  a_digit n h = grind (arith, nat_tests)

  decimal_digits : (n : ℕ) → n < 2 ^ 64 → list_all is_ascii_digit (decimal n) ≡ true
  decimal_digits n h = decimal_by_steps (λ m digits. list_all is_ascii_digit digits ≡ true) one more n h
    where
      one : (m : ℕ) → m < 10 → list_all is_ascii_digit ((48 + m) ∷ []) ≡ true
      one m l = rw (a_digit m l) refl

      more : (m : ℕ) (digits : List ℕ) → 10 ≤ m → list_all is_ascii_digit digits ≡ true → list_all is_ascii_digit (digits ++ (48 + m % 10) ∷ []) ≡ true
      more m digits l e = last_digit digits (48 + m % 10) e (a_digit (m % 10) (omega arith))

  good_decimal : (negative : Bool) (n : ℕ) → n ≤ 1000000001 → IsGood (number negative (decimal n))
  good_decimal negative n h = let small : n < 2 ^ 64 = omega arith in ((decimal_nonempty n small, decimal_digits n small), refl)

  good_number : (s : Bool) (d : List ℕ) → IsGood (number_token (number_value s d))
  unfolding number_value
  good_number false d = good_decimal false (magnitude d) (magnitude_bounded d)
  good_number true d = negative (magnitude d) (magnitude_bounded d)
    where
      negative : (n : ℕ) → n ≤ 1000000001 → IsGood (number_token (neg_ℤ (pos n)))
      negative zero h = good_decimal false 0 h
      negative (suc n) h = good_decimal true (suc n) h

  good_bound : (s : Bool) (d : List ℕ) → IsGood (number false (decimal (bound_value s d)))
  good_bound s d = let few = bound_bounded s d in good_decimal false (bound_value s d) (omega arith)

  good_value : (t : TokenForm) (v : WrittenValue) → value_of t ≡ Some v → (IsRead second) t → IsGood (value_token v)
  good_value (name x) (a_word y) e r = let is : cut_name x ≡ y = cc in subst (λ (z : List ℕ). IsGood (name z)) is (good_name x r)
  good_value (number s d) (a_number n) e r = let is : number_value s d ≡ n = cc in subst (λ (z : ℤ). IsGood (number_token z)) is (good_number s d)
  good_value t (a_truth true) e r = (tt, refl)
  good_value t (a_truth false) e r = (tt, refl)
  good_value (keyword keywords.True) (a_word y) e r = absurd cc
  good_value (keyword keywords.True) (a_number n) e r = absurd cc
  good_value (keyword keywords.True) (attribute_value f y) e r = absurd cc
  good_value (keyword keywords.False) (a_word y) e r = absurd cc
  good_value (keyword keywords.False) (a_number n) e r = absurd cc
  good_value (keyword keywords.False) (attribute_value f y) e r = absurd cc
  good_value t v e r = absurd cc

  -- ---- formulas

  good_values : {ts : List TokenForm} {vs : List WrittenValue} → SpellsValues ts vs → AllOf (IsRead second) ts → AreGood (values_tokens vs)
  good_values (one_value t v e) r = (good_value t v e r.0, tt)
  good_values (more_values t v ts vs e s) r = subst AreGood (sym (more_is v s)) (good_value t v e r.0, ((tt, refl), good_values s r.1.1))

  good_right : {ts : List TokenForm} {v : WrittenValue} → SpellsRight ts v → AllOf (IsRead second) ts → AreGood (right_tokens v)
  good_right (a_value t (a_word f) e) r = (good_value t (a_word f) e r.0, tt)
  good_right (a_value t (a_number n) e) r = (good_value t (a_number n) e r.0, tt)
  good_right (a_value t (a_truth b) e) r = (good_value t (a_truth b) e r.0, tt)
  good_right (a_value t (attribute_value f x) e) r = absurd (no_attribute t f x e)
  good_right (an_attribute_value f x) r = (good_name f r.0, ((r.1.0, refl), (good_name x r.1.1.0, ((tt, refl), tt))))

  good_enclosed : (asked own : Level) (ts : List TokenForm) → AreGood ts → AreGood (enclosed asked own ts)
  good_enclosed asked own ts a = by_test (nat_le (tightness asked) (tightness own))
    where
      by_test : (b : Bool) → AreGood (if b then ts else mark OpenParenthesis ∷ ts ++ mark CloseParenthesis ∷ [])
      by_test true = a
      by_test false = ((tt, refl), all_joined IsGood ts (mark CloseParenthesis ∷ []) a ((tt, refl), tt))

  good_formula : (asked : Level) {l : Level} {ts : List TokenForm} {f : RawTree} → SpellsFormula l ts f → AllOf (IsRead second) ts → AreGood (formula_tokens asked f)
  unfolding formula_tokens
  good_formula asked a_truth r = ((tt, refl), tt)
  good_formula asked a_falsity r = ((tt, refl), tt)
  good_formula asked (in_parentheses {ts} s) r = good_formula asked s (all_front (IsRead second) ts (mark CloseParenthesis ∷ []) r.1)
  good_formula asked (a_flag x) r = (good_name x r.0, tt)
  good_formula asked (a_comparison x m q e s) r = (good_name x r.0, ((tt, refl), good_right s r.1.1))
  good_formula asked (a_flag_of f x) r = (good_name f r.0, ((r.1.0, refl), (good_name x r.1.1.0, ((tt, refl), tt))))
  good_formula asked (a_comparison_of f x m q e s) r = (good_name f r.0, ((r.1.0, refl), (good_name x r.1.1.0, ((tt, refl), ((tt, refl), good_right s r.1.1.1.1.1)))))
  good_formula asked (a_choice_of f x {ts} {vs} s) r =
      (good_name f r.0, ((r.1.0, refl), (good_name x r.1.1.0, ((tt, refl), ((tt, refl), ((tt, refl), all_joined IsGood (values_tokens vs) (mark CloseBrace ∷ []) (good_values s (all_front (IsRead second) ts (mark CloseBrace ∷ []) r.1.1.1.1.1.1)) ((tt, refl), tt)))))))
  good_formula asked (a_universal x k {ts} {f} s) r =
      good_enclosed asked prefix_level _ ((r.0, refl), (good_name x r.1.0, ((tt, refl), (good_name k r.1.1.1.0, ((r.1.1.1.1.0, refl), all_joined IsGood (formula_tokens whole_level f) (mark CloseParenthesis ∷ []) (good_formula whole_level s (all_front (IsRead second) ts (mark CloseParenthesis ∷ []) r.1.1.1.1.1)) ((tt, refl), tt))))))
  good_formula asked (an_existential x k {ts} {f} s) r =
      good_enclosed asked prefix_level _ ((r.0, refl), (good_name x r.1.0, ((tt, refl), (good_name k r.1.1.1.0, ((r.1.1.1.1.0, refl), all_joined IsGood (formula_tokens whole_level f) (mark CloseParenthesis ∷ []) (good_formula whole_level s (all_front (IsRead second) ts (mark CloseParenthesis ∷ []) r.1.1.1.1.1)) ((tt, refl), tt))))))
  good_formula asked (a_choice x {ts} {vs} s) r = (good_name x r.0, ((tt, refl), ((tt, refl), all_joined IsGood (values_tokens vs) (mark CloseBrace ∷ []) (good_values s (all_front (IsRead second) ts (mark CloseBrace ∷ []) r.1.1.1)) ((tt, refl), tt))))
  good_formula asked (a_primary s) r = good_formula asked s r
  good_formula asked (a_prefix s) r = good_formula asked s r
  good_formula asked (a_tempo s) r = good_formula asked s r
  good_formula asked (a_conjunct s) r = good_formula asked s r
  good_formula asked (a_disjunct s) r = good_formula asked s r
  good_formula asked (a_side s) r = good_formula asked s r
  good_formula asked (a_whole s) r = good_formula asked s r
  good_formula asked (a_negation s) r = good_enclosed asked prefix_level _ ((tt, refl), good_formula prefix_level s r.1)
  good_formula asked (a_next s) r = good_enclosed asked prefix_level _ ((tt, refl), good_formula prefix_level s r.1)
  good_formula asked (an_eventually s) r = good_enclosed asked prefix_level _ ((tt, refl), good_formula prefix_level s r.1)
  good_formula asked (an_always s) r = good_enclosed asked prefix_level _ ((tt, refl), good_formula prefix_level s r.1)
  good_formula asked (an_eventually_within q d s) r = good_enclosed asked prefix_level _ ((tt, refl), ((tt, refl), (good_bound q d, good_formula prefix_level s r.1.1.1)))
  good_formula asked (an_always_within q d s) r = good_enclosed asked prefix_level _ ((tt, refl), ((tt, refl), (good_bound q d, good_formula prefix_level s r.1.1.1)))
  good_formula asked (an_until {ts} {us} {f} {g} s t) r = good_enclosed asked tempo_level _ (all_joined IsGood (formula_tokens prefix_level f) (keyword keywords.Until ∷ formula_tokens prefix_level g) (good_formula prefix_level s (all_front (IsRead second) ts (keyword keywords.Until ∷ us) r)) ((tt, refl), good_formula prefix_level t (all_back (IsRead second) ts (keyword keywords.Until ∷ us) r).1))
  good_formula asked (an_unless {ts} {us} {f} {g} s t) r = good_enclosed asked tempo_level _ (all_joined IsGood (formula_tokens prefix_level f) (keyword keywords.Unless ∷ formula_tokens prefix_level g) (good_formula prefix_level s (all_front (IsRead second) ts (keyword keywords.Unless ∷ us) r)) ((tt, refl), good_formula prefix_level t (all_back (IsRead second) ts (keyword keywords.Unless ∷ us) r).1))
  good_formula asked (a_release {ts} {us} {f} {g} s t) r = good_enclosed asked tempo_level _ (all_joined IsGood (formula_tokens prefix_level f) (keyword keywords.Release ∷ formula_tokens prefix_level g) (good_formula prefix_level s (all_front (IsRead second) ts (keyword keywords.Release ∷ us) r)) ((tt, refl), good_formula prefix_level t (all_back (IsRead second) ts (keyword keywords.Release ∷ us) r).1))
  good_formula asked (a_conjunction {ts} {us} {f} {g} s t) r = good_enclosed asked and_level _ (all_joined IsGood (formula_tokens and_level f) (keyword keywords.And ∷ formula_tokens tempo_level g) (good_formula and_level s (all_front (IsRead second) ts (keyword keywords.And ∷ us) r)) ((tt, refl), good_formula tempo_level t (all_back (IsRead second) ts (keyword keywords.And ∷ us) r).1))
  good_formula asked (a_disjunction {ts} {us} {f} {g} s t) r = good_enclosed asked or_level _ (all_joined IsGood (formula_tokens or_level f) (keyword keywords.Or ∷ formula_tokens and_level g) (good_formula or_level s (all_front (IsRead second) ts (keyword keywords.Or ∷ us) r)) ((tt, refl), good_formula and_level t (all_back (IsRead second) ts (keyword keywords.Or ∷ us) r).1))
  good_formula asked (an_implication {ts} {us} {f} {g} s t) r = good_enclosed asked implies_level _ (all_joined IsGood (formula_tokens or_level f) (keyword keywords.Implies ∷ formula_tokens implies_level g) (good_formula or_level s (all_front (IsRead second) ts (keyword keywords.Implies ∷ us) r)) ((tt, refl), good_formula implies_level t (all_back (IsRead second) ts (keyword keywords.Implies ∷ us) r).1))
  good_formula asked (an_equivalence {ts} {us} {f} {g} s t) r = good_enclosed asked iff_level _ (all_joined IsGood (formula_tokens implies_level f) (keyword keywords.Iff ∷ formula_tokens implies_level g) (good_formula implies_level s (all_front (IsRead second) ts (keyword keywords.Iff ∷ us) r)) ((tt, refl), good_formula implies_level t (all_back (IsRead second) ts (keyword keywords.Iff ∷ us) r).1))
  good_formula asked (an_entailment {ts} {us} {f} {g} s t) r = good_enclosed asked whole_level _ (all_joined IsGood (formula_tokens iff_level f) (keyword keywords.Entails ∷ formula_tokens iff_level g) (good_formula iff_level s (all_front (IsRead second) ts (keyword keywords.Entails ∷ us) r)) ((tt, refl), good_formula iff_level t (all_back (IsRead second) ts (keyword keywords.Entails ∷ us) r).1))
  good_formula asked (an_until_within q d {ts} {us} {f} {g} s t) r = good_enclosed asked tempo_level _ (all_joined IsGood (formula_tokens prefix_level f ++ keyword keywords.Until ∷ within_tokens (bound_value q d)) (formula_tokens prefix_level g) (all_joined IsGood (formula_tokens prefix_level f) (keyword keywords.Until ∷ within_tokens (bound_value q d)) (good_formula prefix_level s (all_front (IsRead second) ts (keyword keywords.Until ∷ keyword keywords.Within ∷ number q d ∷ us) r)) ((tt, refl), ((tt, refl), (good_bound q d, tt)))) (good_formula prefix_level t (all_back (IsRead second) ts (keyword keywords.Until ∷ keyword keywords.Within ∷ number q d ∷ us) r).1.1.1))
  good_formula asked (an_unless_within q d {ts} {us} {f} {g} s t) r = good_enclosed asked tempo_level _ (all_joined IsGood (formula_tokens prefix_level f ++ keyword keywords.Unless ∷ within_tokens (bound_value q d)) (formula_tokens prefix_level g) (all_joined IsGood (formula_tokens prefix_level f) (keyword keywords.Unless ∷ within_tokens (bound_value q d)) (good_formula prefix_level s (all_front (IsRead second) ts (keyword keywords.Unless ∷ keyword keywords.Within ∷ number q d ∷ us) r)) ((tt, refl), ((tt, refl), (good_bound q d, tt)))) (good_formula prefix_level t (all_back (IsRead second) ts (keyword keywords.Unless ∷ keyword keywords.Within ∷ number q d ∷ us) r).1.1.1))
  good_formula asked (a_release_within q d {ts} {us} {f} {g} s t) r = good_enclosed asked tempo_level _ (all_joined IsGood (formula_tokens prefix_level f ++ keyword keywords.Release ∷ within_tokens (bound_value q d)) (formula_tokens prefix_level g) (all_joined IsGood (formula_tokens prefix_level f) (keyword keywords.Release ∷ within_tokens (bound_value q d)) (good_formula prefix_level s (all_front (IsRead second) ts (keyword keywords.Release ∷ keyword keywords.Within ∷ number q d ∷ us) r)) ((tt, refl), ((tt, refl), (good_bound q d, tt)))) (good_formula prefix_level t (all_back (IsRead second) ts (keyword keywords.Release ∷ keyword keywords.Within ∷ number q d ∷ us) r).1.1.1))

  -- ---- statements

  good_names : {ts : List TokenForm} {xs : List (List ℕ)} → SpellsNames ts xs → AllOf (IsRead second) ts → AreGood (names_tokens xs)
  good_names (one_name x) r = (good_name x r.0, tt)
  good_names (more_names x s) r = subst AreGood (sym (more_names_is (cut_name x) s)) (good_name x r.0, ((tt, refl), good_names s r.1.1))

  good_part : {word : Keyword} {ts : List TokenForm} {xs : List (List ℕ)} → SpellsPart word ts xs → AllOf (IsRead second) ts → AreGood (part_tokens word xs)
  good_part no_part r = tt
  good_part {word = word} (a_part s) r = subst AreGood (sym (part_is word s)) ((tt, refl), good_names s r.1)

  good_pattern : {ts : List TokenForm} {p : Option (List ℕ)} → SpellsPattern ts p → AllOf (IsRead second) ts → AreGood (pattern_tokens p)
  good_pattern no_pattern r = tt
  good_pattern (a_pattern x) r = ((tt, refl), (good_name x r.1.0, tt))

  good_exact : {ts : List TokenForm} {e : Bool} → SpellsExact ts e → AreGood (exact_tokens e)
  good_exact not_exact = tt
  good_exact is_exact = ((tt, refl), tt)

  good_role : {t : TokenForm} {role : Role} → SpellsRole t role → IsGood (role_token role)
  good_role a_pre = (tt, refl)
  good_role a_trig = (tt, refl)
  good_role a_post = (tt, refl)

  good_range : {ts : List TokenForm} {range : RangeForm} → SpellsRange ts range → AllOf (IsRead second) ts → AreGood (range_tokens range)
  good_range a_boolean r = ((tt, refl), tt)
  good_range (an_enumeration {ts} {xs} s) r = ((tt, refl), all_joined IsGood (names_tokens xs) (mark CloseBrace ∷ []) (good_names s (all_front (IsRead second) ts (mark CloseBrace ∷ []) r.1)) ((tt, refl), tt))
  good_range (a_span s t d e) r = (good_number s d, ((tt, refl), (good_number t e, tt)))

  good_sets : {ts : List TokenForm} {sets : List Setting} → SpellsSets ts sets → AllOf (IsRead second) ts → AreGood (separated (map set_tokens sets))
  good_sets (one_set x t v e) r = (good_name x r.0, ((tt, refl), (good_value t v e r.1.1.0, tt)))
  good_sets (more_sets x t v e s) r =
      subst AreGood (sym (more_sets_is (record { variable = cut_name x; value = v }) s)) (good_name x r.0, ((tt, refl), (good_value t v e r.1.1.0, ((tt, refl), good_sets s r.1.1.1.1))))

  good_state : {ts : List TokenForm} {sets : List Setting} → SpellsState ts sets → AllOf (IsRead second) ts → AreGood (state_tokens sets)
  good_state an_empty_state r = ((tt, refl), ((tt, refl), tt))
  good_state (a_state {ts} {sets} s) r = ((tt, refl), all_joined IsGood (separated (map set_tokens sets)) (mark CloseBrace ∷ []) (good_sets s (all_front (IsRead second) ts (mark CloseBrace ∷ []) r.1)) ((tt, refl), tt))

  good_states : {ts : List TokenForm} {ss : List (List Setting)} → SpellsStates ts ss → AllOf (IsRead second) ts → AreGood (flat_map state_tokens ss)
  good_states no_state r = tt
  good_states (one_more_state {ts} {us} {s} {ss} a b) r = all_joined IsGood (state_tokens s) (flat_map state_tokens ss) (good_state a (all_front (IsRead second) ts us r)) (good_states b (all_back (IsRead second) ts us r))

  good_statement : {ts : List TokenForm} {s : StatementForm} → SpellsStatement ts s → AllOf (IsRead second) ts → AreGood (statement_tokens s)
  unfolding statement_tokens
  good_statement (a_variable x s) r = ((tt, refl), (good_name x r.1.0, ((tt, refl), good_range s r.1.1.1)))
  good_statement (an_entity_type x {ts} {xs} s) r =
      ((r.0, refl), (good_name x r.1.0, ((tt, refl), ((tt, refl), all_joined IsGood (names_tokens xs) (mark CloseBrace ∷ []) (good_names s (all_front (IsRead second) ts (mark CloseBrace ∷ []) r.1.1.1.1)) ((tt, refl), tt)))))
  good_statement (an_attribute x y s) r = ((r.0, refl), (good_name x r.1.0, ((tt, refl), (good_name y r.1.1.1.0, ((tt, refl), good_range s r.1.1.1.1.1)))))
  good_statement (a_domain x s) r = ((tt, refl), (good_name x r.1.0, ((tt, refl), good_formula whole_level s r.1.1.1)))
  good_statement (a_rule x {ts} {us} {f} {g} s t) r =
      ((tt, refl), (good_name x r.1.0, ((tt, refl), all_joined IsGood (formula_tokens iff_level f) (keyword keywords.Entails ∷ formula_tokens iff_level g) (good_formula iff_level s (all_front (IsRead second) ts (keyword keywords.Entails ∷ us) r.1.1.1)) ((tt, refl), good_formula iff_level t (all_back (IsRead second) ts (keyword keywords.Entails ∷ us) r.1.1.1).1))))
  good_statement (a_goal x s) r = ((tt, refl), (good_name x r.1.0, ((tt, refl), good_formula whole_level s r.1.1.1)))
  good_statement (an_obstacle x s) r = ((tt, refl), (good_name x r.1.0, ((tt, refl), good_formula whole_level s r.1.1.1)))
  good_statement (a_refinement x {ts} {us} {xs} {p} s t) r =
      ((tt, refl), (good_name x r.1.0, ((tt, refl), all_joined IsGood (names_tokens xs) (pattern_tokens p) (good_names s (all_front (IsRead second) ts us r.1.1.1)) (good_pattern t (all_back (IsRead second) ts us r.1.1.1)))))
  good_statement (an_obstruction x s) r = ((tt, refl), (good_name x r.1.0, ((tt, refl), good_names s r.1.1.1)))
  good_statement (a_conflict x y {ts} {us} {xs} {f} s t) r =
      let names = subst AreGood (sym (more_names_is (cut_name y) s)) (good_name y r.1.1.1.0, ((tt, refl), good_names s (all_front (IsRead second) ts (keyword keywords.Boundary ∷ us) r.1.1.1.1.1))) in
      ((tt, refl), (good_name x r.1.0, ((tt, refl), all_joined IsGood (names_tokens (cut_name y ∷ xs)) (keyword keywords.Boundary ∷ whole_tokens f) names ((tt, refl), good_formula whole_level t (all_back (IsRead second) ts (keyword keywords.Boundary ∷ us) r.1.1.1.1.1).1))))
  good_statement (an_agent x {ts} {us} {xs} {ys} s t) r =
      ((tt, refl), (good_name x r.1.0, all_joined IsGood (part_tokens keywords.Monitors xs) (part_tokens keywords.Controls ys) (good_part s (all_front (IsRead second) ts us r.1.1)) (good_part t (all_back (IsRead second) ts us r.1.1))))
  good_statement (an_assignment x y) r = ((tt, refl), (good_name x r.1.0, ((tt, refl), (good_name y r.1.1.1.0, tt))))
  good_statement (an_expectation x y) r = ((tt, refl), (good_name x r.1.0, ((tt, refl), (good_name y r.1.1.1.0, tt))))
  good_statement (an_operation x y {ts} {us} {f} {g} s t) r =
      ((tt, refl), (good_name x r.1.0, ((tt, refl), (good_name y r.1.1.1.0, ((tt, refl), all_joined IsGood (whole_tokens f) (keyword keywords.Dompost ∷ whole_tokens g) (good_formula whole_level s (all_front (IsRead second) ts (keyword keywords.Dompost ∷ us) r.1.1.1.1.1)) ((tt, refl), good_formula whole_level t (all_back (IsRead second) ts (keyword keywords.Dompost ∷ us) r.1.1.1.1.1).1))))))
  good_statement (a_requirement x y t q s) r = ((tt, refl), (good_name x r.1.0, ((tt, refl), (good_name y r.1.1.1.0, (good_role q, good_formula whole_level s r.1.1.1.1.1)))))
  good_statement (an_operationalisation x {ts} {us} {xs} {e} s t) r =
      ((tt, refl), (good_name x r.1.0, ((tt, refl), all_joined IsGood (names_tokens xs) (exact_tokens e) (good_names s (all_front (IsRead second) ts us r.1.1.1)) (good_exact t))))
  good_statement (a_trace x {ts} {us} {vs} {prefix} {cycle} {s} p q c) r =
      let front = all_front (IsRead second) (ts ++ keyword keywords.Loop ∷ us) vs r.1.1.1 in
      let states = all_joined IsGood (state_tokens s) (flat_map state_tokens cycle) (good_state q (all_back (IsRead second) ts (keyword keywords.Loop ∷ us) front).1) (good_states c (all_back (IsRead second) (ts ++ keyword keywords.Loop ∷ us) vs r.1.1.1)) in
      ((tt, refl), (good_name x r.1.0, ((tt, refl), all_joined IsGood (flat_map state_tokens prefix) (keyword keywords.Loop ∷ flat_map state_tokens (s ∷ cycle)) (good_states p (all_front (IsRead second) ts (keyword keywords.Loop ∷ us) front)) ((tt, refl), states))))

  -- ---- texts

  good_statements : {ts : List TokenForm} {ss : List StatementForm} → SpellsStatements ts ss → AllOf (IsRead second) ts → AreGood (flat_map ended_tokens ss)
  good_statements no_statement r = tt
  good_statements (one_more {ts} {us} {s} {ss} a b) r =
      all_joined IsGood (ended_tokens s) (flat_map ended_tokens ss) (all_joined IsGood (statement_tokens s) (mark Semicolon ∷ []) (good_statement a (all_front (IsRead second) ts (mark Semicolon ∷ us) r)) ((tt, refl), tt)) (good_statements b (all_back (IsRead second) ts (mark Semicolon ∷ us) r).1)

  good_text : {ts : List TokenForm} {ss : List StatementForm} → SpellsText ts ss → AllOf (IsRead second) ts → AreGood (flat_map ended_tokens ss)
  unfolding statement_tokens
  good_text (a_text b d is s) r = ((tt, refl), (good_decimal false 1 (omega arith), ((tt, refl), good_statements s r.1.1.1)))
  good_text (a_second_text b d is s) r = ((tt, refl), (good_decimal false 2 (omega arith), ((tt, refl), good_statements s r.1.1.1)))

  are_writable : (ts : List TokenForm) → AreGood ts → AreWritable second ts
  are_writable [] a = tt
  are_writable (t ∷ ts) a = (a.0.0, are_writable ts a.1)

  are_short : (ts : List TokenForm) → AreGood ts → list_all is_short ts ≡ true
  are_short [] a = refl
  are_short (t ∷ ts) a = ap (λ (b : Bool). b && list_all is_short ts) a.0.1 ∙ are_short ts a.1

  -- the tokens of a text's statements can stand in a text
  pub text_is_writable : {ts : List TokenForm} {ss : List StatementForm} → SpellsText ts ss → AllOf (IsRead second) ts → AreWritable second (flat_map ended_tokens ss)
  text_is_writable {ss = ss} s r = are_writable (flat_map ended_tokens ss) (good_text s r)

  pub text_is_short : {ts : List TokenForm} {ss : List StatementForm} → SpellsText ts ss → AllOf (IsRead second) ts → list_all is_short (flat_map ended_tokens ss) ≡ true
  text_is_short {ss = ss} s r = are_short (flat_map ended_tokens ss) (good_text s r)
