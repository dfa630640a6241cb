-- The tokens that a text is written with are read again as its version has them.
use Rattle.std.proofs.Common.{◌≡◌, ℕ, Bool, true, false, List, [], ◌∷◌, ◌++◌, Option, Some, refl, sym, ap, ◌∙◌}
use Rattle.std.specs.Prelude.{◌==◌, map, if◌then◌else◌}
use Rattle.state_space.specs.declared.keyword.Keyword.{Keyword}
use Rattle.state_space.specs.declared.keyword.Keyword.TheVariants as keywords
use Rattle.state_space.specs.Ranges.{RangeForm}
use Rattle.temporal_logic.specs.Ltl.{Relation}
use Rattle.model_tokens.specs.declared.token.Sign.{Sign}
use Rattle.model_tokens.specs.declared.token.Sign.TheVariants.{Semicolon, Comma, CloseParenthesis, OpenBrace, CloseBrace, Equal, NotEqual, Below, AtMost, Above, AtLeast}
use Rattle.model_text.specs.declared.statement.Role.{Role}
use Rattle.model_tokens.specs.Tokens.{TokenForm, keyword, mark, name, number, further, stray, bad_byte}
use Rattle.model_text.specs.RawTrees.{WrittenValue, RawTree}
use Rattle.model_text.specs.Leaves.{relation_of, value_of}
use Rattle.model_tokens.specs.Versions.{further_word, word_or_name, second_form, is_name, second_forms, is_second, version_forms}
use Rattle.model_text.specs.FormulaGrammar.{Level, SpellsValues, one_value, more_values, SpellsRight, a_value, an_attribute_value, SpellsFormula, a_truth, a_falsity, in_parentheses, a_flag, a_comparison, a_choice, a_flag_of, a_comparison_of, a_choice_of, a_universal, an_existential, a_primary, a_negation, a_next, an_eventually, an_always, an_eventually_within, an_always_within, a_prefix, an_until, an_unless, a_release, an_until_within, an_unless_within, a_release_within, a_tempo, a_conjunction, a_conjunct, a_disjunction, a_disjunct, an_implication, a_side, an_equivalence, a_whole, an_entailment}
use Rattle.model_text.specs.Statements.{Setting, StatementForm, version}
use Rattle.model_text.specs.Grammar.{SpellsNames, one_name, more_names, SpellsPart, no_part, a_part, SpellsPattern, no_pattern, a_pattern, SpellsExact, not_exact, is_exact, SpellsRole, a_pre, a_trig, a_post, SpellsRange, a_boolean, an_enumeration, a_span, SpellsSets, one_set, more_sets, SpellsState, an_empty_state, a_state, SpellsStates, no_state, one_more_state, SpellsStatement, a_variable, an_entity_type, an_attribute, a_domain, a_rule, a_goal, an_obstacle, a_refinement, an_obstruction, a_conflict, an_agent, an_assignment, an_expectation, an_operation, a_requirement, an_operationalisation, a_trace, SpellsStatements, no_statement, one_more, SpellsText, a_text, a_second_text}
use Rattle.model_text.specs.Writable.{IsWritable, AreWritable, plain}
use Rattle.model_text.proofs.ReadTokens.{AllOf, all_front, all_back}
use Rattle.model_text.proofs.TextLaws.{number_one, number_two}

-- each token is what version 2 makes of its plain form, where it stands
abbrev Settled : Bool → List TokenForm → Type 0
Settled b [] = Unit {0}
Settled b (t ∷ ts) = (second_form b (plain t) ≡ t) × Settled (is_name t) ts

settled_again : (b : Bool) (ts : List TokenForm) → Settled b ts → second_forms b (map plain ts) ≡ ts
settled_again b [] s = refl
settled_again b (t ∷ ts) s =
    ap (λ (u : TokenForm). u ∷ second_forms (is_name u) (map plain ts)) s.0 ∙ ap (λ (us : List TokenForm). t ∷ us) (settled_again (is_name t) ts s.1)

-- wherever it stands
abbrev Anywhere : TokenForm → Type 0
Anywhere t = (b : Bool) → second_form b (plain t) ≡ t

both : (t : TokenForm) → second_form true (plain t) ≡ t → second_form false (plain t) ≡ t → Anywhere t
both t p q true = p
both t p q false = q

abbrev Free : TokenForm → Type 0
Free = IsWritable true

settled_join : (b : Bool) (ts us : List TokenForm) → Settled b ts → ((c : Bool) → Settled c us) → Settled b (ts ++ us)
settled_join b [] us s r = r b
settled_join b (t ∷ ts) us s r = (s.0, settled_join (is_name t) ts us s.1 r)

-- ---- leaves

named : (x : List ℕ) → Free (name x) → Anywhere (name x)
named x w = both (name x) (ap (λ o. word_or_name o x) (w.2 refl)) (ap (λ o. word_or_name o x) (w.2 refl))

worded : (k : Keyword) → Anywhere (keyword k)
worded k = both (keyword k) refl refl

comma : Anywhere (mark Comma)
comma = both (mark Comma) refl refl

closing : Anywhere (mark CloseParenthesis)
closing = both (mark CloseParenthesis) refl refl

closing_brace : Anywhere (mark CloseBrace)
closing_brace = both (mark CloseBrace) refl refl

opening_brace : Anywhere (mark OpenBrace)
opening_brace = both (mark OpenBrace) refl refl

signed : (m : Sign) (r : Relation) → relation_of m ≡ Some r → Anywhere (mark m)
signed Equal r e = both (mark Equal) refl refl
signed NotEqual r e = both (mark NotEqual) refl refl
signed Below r e = both (mark Below) refl refl
signed AtMost r e = both (mark AtMost) refl refl
signed Above r e = both (mark Above) refl refl
signed AtLeast r e = both (mark AtLeast) refl refl
signed m r e = absurd cc

valued : (t : TokenForm) (v : WrittenValue) → value_of t ≡ Some v → Free t → Anywhere t
valued (name x) v e w = named x w
valued (number s d) v e w = both (number s d) refl refl
valued (keyword k) v e w = worded k
valued (mark m) v e w = absurd cc
valued (further f) v e w = absurd cc
valued stray v e w = absurd cc
valued bad_byte v e w = absurd cc

-- the rest behind a token that may stand anywhere
behind : (t : TokenForm) (us : List TokenForm) → Anywhere t → Settled (is_name t) us → (c : Bool) → Settled c (t ∷ us)
behind t us a s c = (a c, s)

settled_values : {ts : List TokenForm} {vs : List WrittenValue} → SpellsValues ts vs → AllOf Free ts → Settled false ts
settled_values (one_value t v e) w = (valued t v e w.0 false, tt)
settled_values (more_values t v ts vs e s) w = (valued t v e w.0 false, (comma (is_name t), settled_values s w.1.1))

settled_right : {ts : List TokenForm} {v : WrittenValue} → SpellsRight ts v → AllOf Free ts → Settled false ts
settled_right (a_value t v e) w = (valued t v e w.0 false, tt)
settled_right (an_attribute_value f x) w = (named f w.0 false, (refl, (named x w.1.1.0 false, (refl, tt))))

-- ---- formulas

settled_infix : (k : Keyword) (ts us : List TokenForm) → (AllOf Free ts → Settled false ts) → (AllOf Free us → Settled false us) → AllOf Free (ts ++ keyword k ∷ us) → Settled false (ts ++ keyword k ∷ us)
settled_infix k ts us s r w =
    settled_join false ts (keyword k ∷ us) (s (all_front Free ts (keyword k ∷ us) w)) (behind (keyword k) us (worded k) (r (all_back Free ts (keyword k ∷ us) w).1))

settled_bounded : (k : Keyword) (q : Bool) (d : List ℕ) (ts us : List TokenForm) → (AllOf Free ts → Settled false ts) → (AllOf Free us → Settled false us)
    → AllOf Free (ts ++ keyword k ∷ keyword keywords.Within ∷ number q d ∷ us) → Settled false (ts ++ keyword k ∷ keyword keywords.Within ∷ number q d ∷ us)
settled_bounded k q d ts us s r w = settled_infix k ts (keyword keywords.Within ∷ number q d ∷ us) s (λ v. (refl, (refl, r v.1.1))) w

settled_closed : (ts : List TokenForm) (m : Sign) → Anywhere (mark m) → (AllOf Free ts → Settled false ts) → AllOf Free (ts ++ mark m ∷ []) → Settled false (ts ++ mark m ∷ [])
settled_closed ts m a s w = settled_join false ts (mark m ∷ []) (s (all_front Free ts (mark m ∷ []) w)) (behind (mark m) [] a tt)

settled_formula : {l : Level} {ts : List TokenForm} {f : RawTree} → SpellsFormula l ts f → AllOf Free ts → Settled false ts
unfolding further_word
settled_formula a_truth w = (refl, tt)
settled_formula a_falsity w = (refl, tt)
settled_formula (in_parentheses {ts} s) w = (refl, settled_closed ts CloseParenthesis closing (settled_formula s) w.1)
settled_formula (a_flag x) w = (named x w.0 false, tt)
settled_formula (a_comparison x m r e s) w = (named x w.0 false, (signed m r e true, settled_right s w.1.1))
settled_formula (a_choice x {ts} s) w = (named x w.0 false, (refl, (refl, settled_closed ts CloseBrace closing_brace (settled_values s) w.1.1.1)))
settled_formula (a_flag_of f x) w = (named f w.0 false, (refl, (named x w.1.1.0 false, (refl, tt))))
settled_formula (a_comparison_of f x m r e s) w = (named f w.0 false, (refl, (named x w.1.1.0 false, (refl, (signed m r e false, settled_right s w.1.1.1.1.1)))))
settled_formula (a_choice_of f x {ts} s) w = (named f w.0 false, (refl, (named x w.1.1.0 false, (refl, (refl, (refl, settled_closed ts CloseBrace closing_brace (settled_values s) w.1.1.1.1.1.1))))))
settled_formula (a_universal x k {ts} s) w = (refl, (named x w.1.0 false, (refl, (named k w.1.1.1.0 false, (refl, settled_closed ts CloseParenthesis closing (settled_formula s) w.1.1.1.1.1)))))
settled_formula (an_existential x k {ts} s) w = (refl, (named x w.1.0 false, (refl, (named k w.1.1.1.0 false, (refl, settled_closed ts CloseParenthesis closing (settled_formula s) w.1.1.1.1.1)))))
settled_formula (a_primary s) w = settled_formula s w
settled_formula (a_negation s) w = (refl, settled_formula s w.1)
settled_formula (a_next s) w = (refl, settled_formula s w.1)
settled_formula (an_eventually s) w = (refl, settled_formula s w.1)
settled_formula (an_always s) w = (refl, settled_formula s w.1)
settled_formula (an_eventually_within q d s) w = (refl, (refl, (refl, settled_formula s w.1.1.1)))
settled_formula (an_always_within q d s) w = (refl, (refl, (refl, settled_formula s w.1.1.1)))
settled_formula (a_prefix s) w = settled_formula s w
settled_formula (an_until {ts} {us} s t) w = settled_infix keywords.Until ts us (settled_formula s) (settled_formula t) w
settled_formula (an_unless {ts} {us} s t) w = settled_infix keywords.Unless ts us (settled_formula s) (settled_formula t) w
settled_formula (a_release {ts} {us} s t) w = settled_infix keywords.Release ts us (settled_formula s) (settled_formula t) w
settled_formula (an_until_within q d {ts} {us} s t) w = settled_bounded keywords.Until q d ts us (settled_formula s) (settled_formula t) w
settled_formula (an_unless_within q d {ts} {us} s t) w = settled_bounded keywords.Unless q d ts us (settled_formula s) (settled_formula t) w
settled_formula (a_release_within q d {ts} {us} s t) w = settled_bounded keywords.Release q d ts us (settled_formula s) (settled_formula t) w
settled_formula (a_tempo s) w = settled_formula s w
settled_formula (a_conjunction {ts} {us} s t) w = settled_infix keywords.And ts us (settled_formula s) (settled_formula t) w
settled_formula (a_conjunct s) w = settled_formula s w
settled_formula (a_disjunction {ts} {us} s t) w = settled_infix keywords.Or ts us (settled_formula s) (settled_formula t) w
settled_formula (a_disjunct s) w = settled_formula s w
settled_formula (an_implication {ts} {us} s t) w = settled_infix keywords.Implies ts us (settled_formula s) (settled_formula t) w
settled_formula (a_side s) w = settled_formula s w
settled_formula (an_equivalence {ts} {us} s t) w = settled_infix keywords.Iff ts us (settled_formula s) (settled_formula t) w
settled_formula (a_whole s) w = settled_formula s w
settled_formula (an_entailment {ts} {us} s t) w = settled_infix keywords.Entails ts us (settled_formula s) (settled_formula t) w

-- ---- parts of statements

settled_names : {ts : List TokenForm} {xs : List (List ℕ)} → SpellsNames ts xs → AllOf Free ts → Settled false ts
settled_names (one_name x) w = (named x w.0 false, tt)
settled_names (more_names x s) w = (named x w.0 false, (refl, settled_names s w.1.1))

settled_part : {word : Keyword} {ts : List TokenForm} {xs : List (List ℕ)} → SpellsPart word ts xs → AllOf Free ts → (c : Bool) → Settled c ts
settled_part no_part w c = tt
settled_part {word = word} (a_part s) w c = (worded word c, settled_names s w.1)

settled_pattern : {ts : List TokenForm} {p : Option (List ℕ)} → SpellsPattern ts p → AllOf Free ts → (c : Bool) → Settled c ts
settled_pattern no_pattern w c = tt
settled_pattern (a_pattern x) w c = (worded keywords.Using c, (named x w.1.0 false, tt))

settled_exact : {ts : List TokenForm} {e : Bool} → SpellsExact ts e → (c : Bool) → Settled c ts
settled_exact not_exact c = tt
settled_exact is_exact c = (worded keywords.Exact c, tt)

settled_role : {t : TokenForm} {role : Role} (us : List TokenForm) → SpellsRole t role → Settled false us → (c : Bool) → Settled c (t ∷ us)
settled_role us a_pre s c = (worded keywords.Pre c, s)
settled_role us a_trig s c = (worded keywords.Trig c, s)
settled_role us a_post s c = (worded keywords.Post c, s)

settled_range : {ts : List TokenForm} {r : RangeForm} → SpellsRange ts r → AllOf Free ts → Settled false ts
settled_range a_boolean w = (refl, tt)
settled_range (an_enumeration {ts} s) w = (refl, settled_closed ts CloseBrace closing_brace (settled_names s) w.1)
settled_range (a_span s t d e) w = (refl, (refl, (refl, tt)))

settled_sets : {ts : List TokenForm} {sets : List Setting} → SpellsSets ts sets → AllOf Free ts → Settled false ts
settled_sets (one_set x t v e) w = (named x w.0 false, (refl, (valued t v e w.1.1.0 false, tt)))
settled_sets (more_sets x t v e s) w = (named x w.0 false, (refl, (valued t v e w.1.1.0 false, (comma (is_name t), settled_sets s w.1.1.1.1))))

settled_state : {ts : List TokenForm} {sets : List Setting} → SpellsState ts sets → AllOf Free ts → (c : Bool) → Settled c ts
settled_state an_empty_state w c = (opening_brace c, (refl, tt))
settled_state (a_state {ts} s) w c = (opening_brace c, settled_closed ts CloseBrace closing_brace (settled_sets s) w.1)

settled_states : {ts : List TokenForm} {ss : List (List Setting)} → SpellsStates ts ss → AllOf Free ts → (c : Bool) → Settled c ts
settled_states no_state w c = tt
settled_states (one_more_state {ts} {us} a b) w c = settled_join c ts us (settled_state a (all_front Free ts us w) c) (settled_states b (all_back Free ts us w))

-- ---- statements

settled_statement : {ts : List TokenForm} {s : StatementForm} → SpellsStatement ts s → AllOf Free ts → Settled false ts
unfolding further_word
settled_statement (a_variable x s) w = (refl, (named x w.1.0 false, (refl, settled_range s w.1.1.1)))
settled_statement (an_entity_type x {ts} s) w = (refl, (named x w.1.0 false, (refl, (refl, settled_closed ts CloseBrace closing_brace (settled_names s) w.1.1.1.1))))
settled_statement (an_attribute x y s) w = (refl, (named x w.1.0 false, (refl, (named y w.1.1.1.0 false, (refl, settled_range s w.1.1.1.1.1)))))
settled_statement (a_domain x s) w = (refl, (named x w.1.0 false, (refl, settled_formula s w.1.1.1)))
settled_statement (a_rule x {ts} {us} s t) w = (refl, (named x w.1.0 false, (refl, settled_infix keywords.Entails ts us (settled_formula s) (settled_formula t) w.1.1.1)))
settled_statement (a_goal x s) w = (refl, (named x w.1.0 false, (refl, settled_formula s w.1.1.1)))
settled_statement (an_obstacle x s) w = (refl, (named x w.1.0 false, (refl, settled_formula s w.1.1.1)))
settled_statement (a_refinement x {ts} {us} s t) w =
    (refl, (named x w.1.0 false, (refl, settled_join false ts us (settled_names s (all_front Free ts us w.1.1.1)) (settled_pattern t (all_back Free ts us w.1.1.1)))))
settled_statement (an_obstruction x s) w = (refl, (named x w.1.0 false, (refl, settled_names s w.1.1.1)))
settled_statement (a_conflict x y {ts} {us} s t) w =
    (refl, (named x w.1.0 false, (refl, (named y w.1.1.1.0 false, (refl, settled_infix keywords.Boundary ts us (settled_names s) (settled_formula t) w.1.1.1.1.1)))))
settled_statement (an_agent x {ts} {us} s t) w =
    (refl, (named x w.1.0 false, settled_join true ts us (settled_part s (all_front Free ts us w.1.1) true) (settled_part t (all_back Free ts us w.1.1))))
settled_statement (an_assignment x y) w = (refl, (named x w.1.0 false, (refl, (named y w.1.1.1.0 false, tt))))
settled_statement (an_expectation x y) w = (refl, (named x w.1.0 false, (refl, (named y w.1.1.1.0 false, tt))))
settled_statement (an_operation x y {ts} {us} s t) w =
    (refl, (named x w.1.0 false, (refl, (named y w.1.1.1.0 false, (refl, settled_infix keywords.Dompost ts us (settled_formula s) (settled_formula t) w.1.1.1.1.1)))))
settled_statement (a_requirement x y t {ts = ts} q s) w =
    (refl, (named x w.1.0 false, (refl, (named y w.1.1.1.0 false, settled_role ts q (settled_formula s w.1.1.1.1.1) true))))
settled_statement (an_operationalisation x {ts} {us} s t) w =
    (refl, (named x w.1.0 false, (refl, settled_join false ts us (settled_names s (all_front Free ts us w.1.1.1)) (settled_exact t))))
settled_statement (a_trace x {ts} {us} {vs} p q r) w =
    let front = all_front Free (ts ++ keyword keywords.Loop ∷ us) vs w.1.1.1 in
    let states = settled_state q (all_back Free ts (keyword keywords.Loop ∷ us) front).1 in
    let first = settled_join false ts (keyword keywords.Loop ∷ us) (settled_states p (all_front Free ts (keyword keywords.Loop ∷ us) front) false) (behind (keyword keywords.Loop) us (worded keywords.Loop) (states false)) in
    (refl, (named x w.1.0 false, (refl, settled_join false (ts ++ keyword keywords.Loop ∷ us) vs first (settled_states r (all_back Free (ts ++ keyword keywords.Loop ∷ us) vs w.1.1.1)))))

settled_statements : {ts : List TokenForm} {ss : List StatementForm} → SpellsStatements ts ss → AllOf Free ts → Settled false ts
settled_statements no_statement w = tt
settled_statements (one_more {ts} {us} a b) w =
    settled_join false ts (mark Semicolon ∷ us) (settled_statement a (all_front Free ts (mark Semicolon ∷ us) w))
    (behind (mark Semicolon) us (both (mark Semicolon) refl refl) (settled_statements b (all_back Free ts (mark Semicolon ∷ us) w).1))

settled_text : {ts : List TokenForm} {ss : List StatementForm} → SpellsText ts ss → AllOf Free ts → Settled false ts
settled_text (a_text q d is s) w = (refl, (refl, (refl, settled_statements s w.1.1.1)))
settled_text (a_second_text q d is s) w = (refl, (refl, (refl, settled_statements s w.1.1.1)))

-- ---- versions

each : (second : Bool) (ts : List TokenForm) → AreWritable second ts → AllOf (IsWritable second) ts
each second [] w = tt
each second (t ∷ ts) w = (w.0, each second ts w.1)

plain_is : (t : TokenForm) → IsWritable false t → plain t ≡ t
plain_is (keyword k) w = refl
plain_is (mark m) w = refl
plain_is (name x) w = refl
plain_is (number s d) w = refl
plain_is (further f) w = absurd cc
plain_is stray w = refl
plain_is bad_byte w = refl

plain_again : (ts : List TokenForm) → AreWritable false ts → map plain ts ≡ ts
plain_again [] w = refl
plain_again (t ∷ ts) w = ap (λ (u : TokenForm). u ∷ map plain ts) (plain_is t w.0) ∙ ap (λ (us : List TokenForm). t ∷ us) (plain_again ts w.1)

-- whether the statements are of version 2
abbrev names_second : List StatementForm → Bool
names_second (version n ∷ ss) = n == 2
names_second _ = false

second_by : {ts : List TokenForm} {ss : List StatementForm} → SpellsText ts ss → is_second ts ≡ names_second ss
second_by (a_text q d is s) = number_one q d is
second_by (a_second_text q d is s) = number_two q d is

plain_second : {ts : List TokenForm} {ss : List StatementForm} → SpellsText ts ss → is_second (map plain ts) ≡ is_second ts
plain_second (a_text q d is s) = refl
plain_second (a_second_text q d is s) = refl

number_same : (ts : List TokenForm) → is_second ts ≡ true → is_second (second_forms false ts) ≡ true
number_same (keyword keywords.Kaos ∷ number q d ∷ ts) e = e
number_same ts e = absurd cc

-- a version's tokens are of that version
pub second_kept : (ts : List TokenForm) → is_second (version_forms ts) ≡ is_second ts
second_kept ts = by_version (is_second ts) refl
  where
    by_version : (b : Bool) → is_second ts ≡ b → is_second (if b then second_forms false ts else ts) ≡ is_second ts
    by_version true e = number_same ts e ∙ sym e
    by_version false e = refl

-- what a spelled text is written with is read again
pub version_again : (second : Bool) (ts : List TokenForm) (ss : List StatementForm) → SpellsText ts ss → is_second ts ≡ second → AreWritable second ts → version_forms (map plain ts) ≡ ts
version_again second ts ss s is w = by_version second is (plain_second s ∙ is) w
  where
    by_version : (b : Bool) → is_second ts ≡ b → is_second (map plain ts) ≡ b → AreWritable b ts → version_forms (map plain ts) ≡ ts
    by_version true is e w = rw e (settled_again false ts (settled_text s (each true ts w)))
    by_version false is e w = rw e (plain_again ts w)

-- texts of the same statements are of one version
pub same_version : {ts us : List TokenForm} {ss : List StatementForm} → SpellsText ts ss → SpellsText us ss → is_second us ≡ is_second ts
same_version s r = second_by r ∙ sym (second_by s)
