-- What a text's statements are written with has no more operators than the text.
use Rattle.std.proofs.Common.{◌≡◌, ℕ, ◌+◌, ◌≤◌, Bool, true, false, List, [], ◌∷◌, ◌++◌, Option, Some, refl, sym, ap, subst, ◌∙◌, append_assoc, arith}
use Rattle.std.specs.Prelude.{max, nat_le, pos, negsuc, map, flat_map, if◌then◌else◌}
use Rattle.state_space.specs.declared.keyword.Keyword.{Keyword}
use Rattle.state_space.specs.declared.keyword.Keyword.TheVariants as keywords
use Rattle.state_space.specs.Ranges.{RangeForm}
use Rattle.model_tokens.specs.declared.token.Sign.{Sign}
use Rattle.model_tokens.specs.declared.token.Sign.TheVariants.{Semicolon, Colon, Comma, Equal, Dots, OpenParenthesis, CloseParenthesis, OpenBrace, CloseBrace}
use Rattle.model_text.specs.declared.statement.Role.{Role}
use Rattle.temporal_logic.specs.Ltl.{Relation, is_same, is_other, is_below, is_at_most, is_above, is_at_least}
use Rattle.model_tokens.specs.declared.token.Further.{Further}
use Rattle.model_tokens.specs.declared.token.Further.TheVariants as furthers
use Rattle.model_tokens.specs.Tokens.{TokenForm, keyword, mark, name, number, further, stray, bad_byte}
use Rattle.model_text.specs.RawTrees.{WrittenValue, a_word, a_number, a_truth, an_attribute as attribute_value, RawTree, for_all, for_some, neg, next, eventually, always, eventually_within, always_within, conj, disj, implies, iff, entails, until, unless, release, until_within, unless_within, release_within}
use Rattle.model_tokens.specs.Values.{cut_name, number_value, bound_value}
use Rattle.model_text.specs.Leaves.{value_of, relation_of}
use Rattle.model_text.specs.Statements.{Setting, StatementForm}
use Rattle.model_text.specs.FormulaGrammar.{Level, whole_level, iff_level, implies_level, or_level, and_level, tempo_level, prefix_level, argument, SpellsValues, one_value, more_values, SpellsRight, a_value, an_attribute_value, SpellsFormula, a_truth, a_falsity, in_parentheses, a_flag, a_comparison, a_choice, a_flag_of, a_comparison_of, a_choice_of, a_universal, an_existential, a_primary, a_negation, a_next, an_eventually, an_always, an_eventually_within, an_always_within, a_prefix, an_until, an_unless, a_release, an_until_within, an_unless_within, a_release_within, a_tempo, a_conjunction, a_conjunct, a_disjunction, a_disjunct, an_implication, a_side, an_equivalence, a_whole, an_entailment}
use Rattle.model_text.specs.Writing.{value_token, right_tokens, sign_of, tightness, enclosed, values_tokens, within_tokens, formula_tokens, separated, names_tokens, whole_tokens, range_tokens, part_tokens, pattern_tokens, exact_tokens, role_token, set_tokens, state_tokens, statement_tokens}
use Rattle.model_text.specs.Limits.{is_operator, is_semicolon, most_operators}
use Rattle.model_text.specs.Grammar.{SpellsNames, one_name, more_names, SpellsPart, no_part, a_part, SpellsPattern, no_pattern, a_pattern, SpellsExact, not_exact, is_exact, SpellsRole, a_pre, a_trig, a_post, SpellsRange, a_boolean, an_enumeration, a_span, SpellsSets, one_set, more_sets, SpellsState, an_empty_state, a_state, SpellsStates, no_state, one_more_state, SpellsStatement, a_variable, an_entity_type, an_attribute, a_domain, a_rule, a_goal, an_obstacle, a_refinement, an_obstruction, a_conflict, an_agent, an_assignment, an_expectation, an_operation, a_requirement, an_operationalisation, a_trace, SpellsStatements, no_statement, one_more, SpellsText, a_text, a_second_text}
use Rattle.model_text.specs.Lines.{own_level, ended_tokens}
use Rattle.model_text.proofs.WrittenFormulas.{more_is, no_attribute}
use Rattle.model_text.proofs.WrittenStatements.{more_names_is, part_is, more_sets_is}
use Rattle.model_text.proofs.WrittenLevels.{at_place, tight_enough}

abbrev weight : TokenForm → ℕ
weight t = if is_operator t then 1 else 0

abbrev count : List TokenForm → ℕ
count [] = 0
count (t ∷ ts) = weight t + count ts

count_joined : (ts us : List TokenForm) → count (ts ++ us) ≡ count ts + count us
count_joined [] us = omega arith
count_joined (t ∷ ts) us = omega (arith, count_joined ts us)

-- one more operator before a list makes its count no less
grows : (c d : ℕ) (ts : List TokenForm) → c ≤ d → most_operators c ts ≤ most_operators d ts
unfolding most_operators
grows c d [] h = h
grows c d (t ∷ ts) h = by_semicolon (is_semicolon t) (grows (c + 1) (d + 1) ts (omega arith)) (grows c d ts h)
  where
    by_operator : (b : Bool) → most_operators (c + 1) ts ≤ most_operators (d + 1) ts → most_operators c ts ≤ most_operators d ts → (if b then most_operators (c + 1) ts else most_operators c ts) ≤ (if b then most_operators (d + 1) ts else most_operators d ts)
    by_operator true more same = more
    by_operator false more same = same

    by_semicolon : (b : Bool) → most_operators (c + 1) ts ≤ most_operators (d + 1) ts → most_operators c ts ≤ most_operators d ts → (if b then max c (most_operators 0 ts) else (if is_operator t then most_operators (c + 1) ts else most_operators c ts)) ≤ (if b then max d (most_operators 0 ts) else (if is_operator t then most_operators (d + 1) ts else most_operators d ts))
    by_semicolon true more same = omega arith
    by_semicolon false more same = by_operator (is_operator t) more same

-- tokens count for at least so many operators of the statement that they stand in
abbrev Counts : List TokenForm → ℕ → Type 0
Counts ts n = (c : ℕ) (rest : List TokenForm) → most_operators (c + n) rest ≤ most_operators c (ts ++ rest)

counts_none : Counts [] 0
counts_none c rest = grows (c + 0) c rest (omega arith)

counts_both : (ts us : List TokenForm) (n m : ℕ) → Counts ts n → Counts us m → Counts (ts ++ us) (n + m)
counts_both ts us n m a b c rest =
    let first = a c (us ++ rest) in
    let second = b (c + n) rest in
    let same : most_operators (c + (n + m)) rest ≤ most_operators ((c + n) + m) rest = grows (c + (n + m)) ((c + n) + m) rest (omega arith) in
    subst (λ (vs : List TokenForm). most_operators (c + (n + m)) rest ≤ most_operators c vs) (sym (append_assoc ts us rest)) (omega arith)

counts_fewer : (ts : List TokenForm) (n m : ℕ) → m ≤ n → Counts ts n → Counts ts m
counts_fewer ts n m h a c rest = let all = a c rest in let less = grows (c + m) (c + n) rest (omega arith) in omega arith

-- a token that is no semicolon
counts_token : (t : TokenForm) (ts : List TokenForm) (n : ℕ) → is_semicolon t ≡ false → Counts ts n → Counts (t ∷ ts) (weight t + n)
unfolding most_operators
counts_token t ts n e a c rest = rw e (by_operator (is_operator t))
  where
    by_operator : (b : Bool) → most_operators (c + ((if b then 1 else 0) + n)) rest ≤ (if b then most_operators (c + 1) (ts ++ rest) else most_operators c (ts ++ rest))
    by_operator true = let all = a (c + 1) rest in let less = grows (c + (1 + n)) ((c + 1) + n) rest (omega arith) in omega arith
    by_operator false = let all = a c rest in let less = grows (c + (0 + n)) (c + n) rest (omega arith) in omega arith

-- the greatest count of what is written is no more than that of its statements
at_most_counts : (c : ℕ) (ts us : List TokenForm) → most_operators c (ts ++ mark Semicolon ∷ us) ≤ max (c + count ts) (most_operators 0 us)
unfolding most_operators
at_most_counts c [] us = omega arith
at_most_counts c (t ∷ ts) us = by_semicolon (is_semicolon t) (at_most_counts (c + 1) ts us) (at_most_counts c ts us) (at_most_counts 0 ts us)
  where
    by_operator : (b : Bool) → most_operators (c + 1) (ts ++ mark Semicolon ∷ us) ≤ max ((c + 1) + count ts) (most_operators 0 us) → most_operators c (ts ++ mark Semicolon ∷ us) ≤ max (c + count ts) (most_operators 0 us) → (if b then most_operators (c + 1) (ts ++ mark Semicolon ∷ us) else most_operators c (ts ++ mark Semicolon ∷ us)) ≤ max (c + ((if b then 1 else 0) + count ts)) (most_operators 0 us)
    by_operator true more same = omega arith
    by_operator false more same = omega arith

    by_semicolon : (b : Bool) → most_operators (c + 1) (ts ++ mark Semicolon ∷ us) ≤ max ((c + 1) + count ts) (most_operators 0 us) → most_operators c (ts ++ mark Semicolon ∷ us) ≤ max (c + count ts) (most_operators 0 us) → most_operators 0 (ts ++ mark Semicolon ∷ us) ≤ max (0 + count ts) (most_operators 0 us) → (if b then max c (most_operators 0 (ts ++ mark Semicolon ∷ us)) else (if is_operator t then most_operators (c + 1) (ts ++ mark Semicolon ∷ us) else most_operators c (ts ++ mark Semicolon ∷ us))) ≤ max (c + (weight t + count ts)) (most_operators 0 us)
    by_semicolon true more same anew = omega arith
    by_semicolon false more same anew = by_operator (is_operator t) more same

-- ---- formulas

value_weight : (v : WrittenValue) → weight (value_token v) ≡ 0
value_weight (a_word x) = refl
value_weight (a_number (pos n)) = refl
value_weight (a_number (negsuc n)) = refl
value_weight (a_truth true) = refl
value_weight (a_truth false) = refl
value_weight (attribute_value f x) = refl

value_no_semicolon : (t : TokenForm) (v : WrittenValue) → value_of t ≡ Some v → is_semicolon t ≡ false
value_no_semicolon (keyword k) v e = refl
value_no_semicolon (name x) v e = refl
value_no_semicolon (number s d) v e = refl
value_no_semicolon (mark m) v e = absurd cc
value_no_semicolon (further f) v e = absurd cc
value_no_semicolon stray v e = absurd cc
value_no_semicolon bad_byte v e = absurd cc

sign_weight : (r : Relation) → weight (mark (sign_of r)) ≡ 0
sign_weight is_same = refl
sign_weight is_other = refl
sign_weight is_below = refl
sign_weight is_at_most = refl
sign_weight is_above = refl
sign_weight is_at_least = refl

values_count : {ts : List TokenForm} {vs : List WrittenValue} → SpellsValues ts vs → count (values_tokens vs) ≡ 0
values_count (one_value t v e) = omega (arith, value_weight v)
values_count (more_values t v ts vs e s) = ap count (more_is v s) ∙ omega (arith, value_weight v, values_count s)

sign_no_semicolon : (m : Sign) (r : Relation) → relation_of m ≡ Some r → is_semicolon (mark m) ≡ false
sign_no_semicolon Semicolon r e = absurd cc
sign_no_semicolon m r e = refl

values_counts : {ts : List TokenForm} {vs : List WrittenValue} → SpellsValues ts vs → Counts ts 0
values_counts (one_value t v e) = counts_fewer (t ∷ []) _ 0 (omega arith) (counts_token t [] 0 (value_no_semicolon t v e) counts_none)
values_counts (more_values t v ts vs e s) = counts_fewer (t ∷ mark Comma ∷ ts) _ 0 (omega arith) (counts_token t (mark Comma ∷ ts) _ (value_no_semicolon t v e) (counts_token (mark Comma) ts 0 refl (values_counts s)))

-- "(" name ")" before others
argument_counts : (x : List ℕ) (us : List TokenForm) (n : ℕ) → Counts us n → Counts (argument x us) (1 + n)
argument_counts x us n a =
    counts_fewer (argument x us) (1 + (0 + (0 + n))) (1 + n) (omega arith)
    (counts_token (further furthers.OpenArgument) (name x ∷ mark CloseParenthesis ∷ us) (0 + (0 + n)) refl (counts_token (name x) (mark CloseParenthesis ∷ us) (0 + n) refl (counts_token (mark CloseParenthesis) us n refl a)))

-- a quantifier, its bound name and its type, before others
head_counts : (q : Further) (x k : List ℕ) (us : List TokenForm) (n : ℕ) → Counts us n → Counts (further q ∷ name x ∷ mark Colon ∷ name k ∷ further furthers.OpenArgument ∷ us) (weight (further q) + (0 + (0 + (0 + (1 + n)))))
head_counts q x k us n a =
    counts_token (further q) (name x ∷ mark Colon ∷ name k ∷ further furthers.OpenArgument ∷ us) (0 + (0 + (0 + (1 + n)))) refl
    (counts_token (name x) (mark Colon ∷ name k ∷ further furthers.OpenArgument ∷ us) (0 + (0 + (1 + n))) refl
    (counts_token (mark Colon) (name k ∷ further furthers.OpenArgument ∷ us) (0 + (1 + n)) refl
    (counts_token (name k) (further furthers.OpenArgument ∷ us) (1 + n) refl (counts_token (further furthers.OpenArgument) us n refl a))))

right_counts : {ts : List TokenForm} {v : WrittenValue} → SpellsRight ts v → Counts ts (count (right_tokens v))
right_counts (a_value t (a_word f) e) = counts_fewer (t ∷ []) _ 0 (omega arith) (counts_token t [] 0 (value_no_semicolon t (a_word f) e) counts_none)
right_counts (a_value t (a_number n) e) = counts_fewer (t ∷ []) _ _ (omega (arith, value_weight (a_number n))) (counts_token t [] 0 (value_no_semicolon t (a_number n) e) counts_none)
right_counts (a_value t (a_truth b) e) = counts_fewer (t ∷ []) _ _ (omega (arith, value_weight (a_truth b))) (counts_token t [] 0 (value_no_semicolon t (a_truth b) e) counts_none)
right_counts (a_value t (attribute_value f x) e) = absurd (no_attribute t f x e)
right_counts (an_attribute_value f x) = counts_token (name f) (argument x []) 1 refl (argument_counts x [] 0 counts_none)

joined_counts : (k : TokenForm) (a b ts us : List TokenForm) → is_semicolon k ≡ false → Counts ts (count a) → Counts us (count b) → Counts (ts ++ k ∷ us) (count (a ++ k ∷ b))
joined_counts k a b ts us e x y = counts_fewer (ts ++ k ∷ us) (count a + (weight k + count b)) (count (a ++ k ∷ b)) (omega (arith, count_joined a (k ∷ b))) (counts_both ts (k ∷ us) (count a) (weight k + count b) x (counts_token k us (count b) e y))

enclosed_count : (asked own : Level) (ts : List TokenForm) → count (enclosed asked own ts) ≤ 1 + count ts
enclosed_count asked own ts = by_test (nat_le (tightness asked) (tightness own))
  where
    by_test : (b : Bool) → count (if b then ts else mark OpenParenthesis ∷ ts ++ mark CloseParenthesis ∷ []) ≤ 1 + count ts
    by_test true = omega arith
    by_test false = omega (arith, count_joined ts (mark CloseParenthesis ∷ []))

-- a formula is written with no more operators than it was spelled with
formula_counts : (asked : Level) {l : Level} {ts : List TokenForm} {f : RawTree} → tightness asked ≤ tightness l → SpellsFormula l ts f → Counts ts (count (formula_tokens asked f))
unfolding formula_tokens
formula_counts asked h a_truth = counts_token (keyword keywords.True) [] 0 refl counts_none
formula_counts asked h a_falsity = counts_token (keyword keywords.False) [] 0 refl counts_none
formula_counts asked h (in_parentheses {ts} {f} s) =
    let inner = formula_counts whole_level (omega arith) s in
    counts_fewer (mark OpenParenthesis ∷ ts ++ mark CloseParenthesis ∷ []) (1 + (count (formula_tokens whole_level f) + 0)) (count (formula_tokens asked f))
    (omega (arith, ap count (at_place asked f), enclosed_count asked (own_level f) (formula_tokens (own_level f) f), ap count (tight_enough whole_level f (omega arith))))
    (counts_token (mark OpenParenthesis) (ts ++ mark CloseParenthesis ∷ []) _ refl (counts_both ts (mark CloseParenthesis ∷ []) _ 0 inner (counts_token (mark CloseParenthesis) [] 0 refl counts_none)))
formula_counts asked h (a_flag x) = counts_token (name x) [] 0 refl counts_none
formula_counts asked h (a_comparison x m q {ts} {v} e s) =
    counts_fewer (name x ∷ mark m ∷ ts) _ _ (omega (arith, sign_weight q)) (counts_token (name x) (mark m ∷ ts) _ refl (counts_token (mark m) ts (count (right_tokens v)) (sign_no_semicolon m q e) (right_counts s)))
formula_counts asked h (a_flag_of f x) = counts_token (name f) (argument x []) 1 refl (argument_counts x [] 0 counts_none)
formula_counts asked h (a_comparison_of f x m q {ts} {v} e s) =
    counts_fewer (name f ∷ argument x (mark m ∷ ts)) _ _ (omega (arith, sign_weight q))
    (counts_token (name f) (argument x (mark m ∷ ts)) _ refl (argument_counts x (mark m ∷ ts) _ (counts_token (mark m) ts (count (right_tokens v)) (sign_no_semicolon m q e) (right_counts s))))
formula_counts asked h (a_choice_of f x {ts} {vs} s) =
    counts_fewer (name f ∷ argument x (keyword keywords.In ∷ mark OpenBrace ∷ ts ++ mark CloseBrace ∷ [])) (0 + (1 + 0)) _ (omega (arith, count_joined (values_tokens vs) (mark CloseBrace ∷ []), values_count s))
    (counts_token (name f) (argument x (keyword keywords.In ∷ mark OpenBrace ∷ ts ++ mark CloseBrace ∷ [])) (1 + 0) refl (argument_counts x (keyword keywords.In ∷ mark OpenBrace ∷ ts ++ mark CloseBrace ∷ []) 0 (counts_token (keyword keywords.In) (mark OpenBrace ∷ ts ++ mark CloseBrace ∷ []) 0 refl (counts_token (mark OpenBrace) (ts ++ mark CloseBrace ∷ []) 0 refl (counts_both ts (mark CloseBrace ∷ []) 0 0 (values_counts s) (counts_token (mark CloseBrace) [] 0 refl counts_none))))))
formula_counts asked h (a_universal x k {ts} {f} s) =
    subst (λ (us : List TokenForm). Counts (further furthers.All ∷ name x ∷ mark Colon ∷ name k ∷ further furthers.OpenArgument ∷ ts ++ mark CloseParenthesis ∷ []) (count us)) (sym (tight_enough asked (for_all (cut_name x) (cut_name k) f) h))
    (head_counts furthers.All x k (ts ++ mark CloseParenthesis ∷ []) (count (formula_tokens whole_level f ++ mark CloseParenthesis ∷ [])) (joined_counts (mark CloseParenthesis) (formula_tokens whole_level f) [] ts [] refl (formula_counts whole_level (omega arith) s) counts_none))
formula_counts asked h (an_existential x k {ts} {f} s) =
    subst (λ (us : List TokenForm). Counts (further furthers.Some ∷ name x ∷ mark Colon ∷ name k ∷ further furthers.OpenArgument ∷ ts ++ mark CloseParenthesis ∷ []) (count us)) (sym (tight_enough asked (for_some (cut_name x) (cut_name k) f) h))
    (head_counts furthers.Some x k (ts ++ mark CloseParenthesis ∷ []) (count (formula_tokens whole_level f ++ mark CloseParenthesis ∷ [])) (joined_counts (mark CloseParenthesis) (formula_tokens whole_level f) [] ts [] refl (formula_counts whole_level (omega arith) s) counts_none))
formula_counts asked h (a_choice x {ts} {vs} s) =
    counts_fewer (name x ∷ keyword keywords.In ∷ mark OpenBrace ∷ ts ++ mark CloseBrace ∷ []) 0 _ (omega (arith, count_joined (values_tokens vs) (mark CloseBrace ∷ []), values_count s))
    (counts_token (name x) (keyword keywords.In ∷ mark OpenBrace ∷ ts ++ mark CloseBrace ∷ []) 0 refl (counts_token (keyword keywords.In) (mark OpenBrace ∷ ts ++ mark CloseBrace ∷ []) 0 refl (counts_token (mark OpenBrace) (ts ++ mark CloseBrace ∷ []) 0 refl (counts_both ts (mark CloseBrace ∷ []) 0 0 (values_counts s) (counts_token (mark CloseBrace) [] 0 refl counts_none)))))
formula_counts asked h (a_primary s) = formula_counts asked (omega arith) s
formula_counts asked h (a_prefix s) = formula_counts asked (omega arith) s
formula_counts asked h (a_tempo s) = formula_counts asked (omega arith) s
formula_counts asked h (a_conjunct s) = formula_counts asked (omega arith) s
formula_counts asked h (a_disjunct s) = formula_counts asked (omega arith) s
formula_counts asked h (a_side s) = formula_counts asked (omega arith) s
formula_counts asked h (a_whole s) = formula_counts asked (omega arith) s
formula_counts asked h (a_negation {ts} {f} s) = subst (λ (us : List TokenForm). Counts (keyword keywords.Not ∷ ts) (count us)) (sym (tight_enough asked (neg f) h)) (counts_token (keyword keywords.Not) ts (count (formula_tokens prefix_level f)) refl (formula_counts prefix_level (omega arith) s))
formula_counts asked h (a_next {ts} {f} s) = subst (λ (us : List TokenForm). Counts (keyword keywords.Next ∷ ts) (count us)) (sym (tight_enough asked (next f) h)) (counts_token (keyword keywords.Next) ts (count (formula_tokens prefix_level f)) refl (formula_counts prefix_level (omega arith) s))
formula_counts asked h (an_eventually {ts} {f} s) = subst (λ (us : List TokenForm). Counts (keyword keywords.Eventually ∷ ts) (count us)) (sym (tight_enough asked (eventually f) h)) (counts_token (keyword keywords.Eventually) ts (count (formula_tokens prefix_level f)) refl (formula_counts prefix_level (omega arith) s))
formula_counts asked h (an_always {ts} {f} s) = subst (λ (us : List TokenForm). Counts (keyword keywords.Always ∷ ts) (count us)) (sym (tight_enough asked (always f) h)) (counts_token (keyword keywords.Always) ts (count (formula_tokens prefix_level f)) refl (formula_counts prefix_level (omega arith) s))
formula_counts asked h (an_eventually_within b d {ts} {f} s) =
    subst (λ (us : List TokenForm). Counts (keyword keywords.Eventually ∷ keyword keywords.Within ∷ number b d ∷ ts) (count us)) (sym (tight_enough asked (eventually_within (bound_value b d) f) h))
    (counts_token (keyword keywords.Eventually) (keyword keywords.Within ∷ number b d ∷ ts) _ refl (counts_token (keyword keywords.Within) (number b d ∷ ts) _ refl (counts_token (number b d) ts (count (formula_tokens prefix_level f)) refl (formula_counts prefix_level (omega arith) s))))
formula_counts asked h (an_always_within b d {ts} {f} s) =
    subst (λ (us : List TokenForm). Counts (keyword keywords.Always ∷ keyword keywords.Within ∷ number b d ∷ ts) (count us)) (sym (tight_enough asked (always_within (bound_value b d) f) h))
    (counts_token (keyword keywords.Always) (keyword keywords.Within ∷ number b d ∷ ts) _ refl (counts_token (keyword keywords.Within) (number b d ∷ ts) _ refl (counts_token (number b d) ts (count (formula_tokens prefix_level f)) refl (formula_counts prefix_level (omega arith) s))))
formula_counts asked h (an_until {ts} {us} {f} {g} s t) =
    subst (λ (vs : List TokenForm). Counts (ts ++ keyword keywords.Until ∷ us) (count vs)) (sym (tight_enough asked (until f g) h)) (joined_counts (keyword keywords.Until) (formula_tokens prefix_level f) (formula_tokens prefix_level g) ts us refl (formula_counts prefix_level (omega arith) s) (formula_counts prefix_level (omega arith) t))
formula_counts asked h (an_unless {ts} {us} {f} {g} s t) =
    subst (λ (vs : List TokenForm). Counts (ts ++ keyword keywords.Unless ∷ us) (count vs)) (sym (tight_enough asked (unless f g) h)) (joined_counts (keyword keywords.Unless) (formula_tokens prefix_level f) (formula_tokens prefix_level g) ts us refl (formula_counts prefix_level (omega arith) s) (formula_counts prefix_level (omega arith) t))
formula_counts asked h (a_release {ts} {us} {f} {g} s t) =
    subst (λ (vs : List TokenForm). Counts (ts ++ keyword keywords.Release ∷ us) (count vs)) (sym (tight_enough asked (release f g) h)) (joined_counts (keyword keywords.Release) (formula_tokens prefix_level f) (formula_tokens prefix_level g) ts us refl (formula_counts prefix_level (omega arith) s) (formula_counts prefix_level (omega arith) t))
formula_counts asked h (a_conjunction {ts} {us} {f} {g} s t) =
    subst (λ (vs : List TokenForm). Counts (ts ++ keyword keywords.And ∷ us) (count vs)) (sym (tight_enough asked (conj f g) h)) (joined_counts (keyword keywords.And) (formula_tokens and_level f) (formula_tokens tempo_level g) ts us refl (formula_counts and_level (omega arith) s) (formula_counts tempo_level (omega arith) t))
formula_counts asked h (a_disjunction {ts} {us} {f} {g} s t) =
    subst (λ (vs : List TokenForm). Counts (ts ++ keyword keywords.Or ∷ us) (count vs)) (sym (tight_enough asked (disj f g) h)) (joined_counts (keyword keywords.Or) (formula_tokens or_level f) (formula_tokens and_level g) ts us refl (formula_counts or_level (omega arith) s) (formula_counts and_level (omega arith) t))
formula_counts asked h (an_implication {ts} {us} {f} {g} s t) =
    subst (λ (vs : List TokenForm). Counts (ts ++ keyword keywords.Implies ∷ us) (count vs)) (sym (tight_enough asked (implies f g) h)) (joined_counts (keyword keywords.Implies) (formula_tokens or_level f) (formula_tokens implies_level g) ts us refl (formula_counts or_level (omega arith) s) (formula_counts implies_level (omega arith) t))
formula_counts asked h (an_equivalence {ts} {us} {f} {g} s t) =
    subst (λ (vs : List TokenForm). Counts (ts ++ keyword keywords.Iff ∷ us) (count vs)) (sym (tight_enough asked (iff f g) h)) (joined_counts (keyword keywords.Iff) (formula_tokens implies_level f) (formula_tokens implies_level g) ts us refl (formula_counts implies_level (omega arith) s) (formula_counts implies_level (omega arith) t))
formula_counts asked h (an_entailment {ts} {us} {f} {g} s t) =
    subst (λ (vs : List TokenForm). Counts (ts ++ keyword keywords.Entails ∷ us) (count vs)) (sym (tight_enough asked (entails f g) h)) (joined_counts (keyword keywords.Entails) (formula_tokens iff_level f) (formula_tokens iff_level g) ts us refl (formula_counts iff_level (omega arith) s) (formula_counts iff_level (omega arith) t))
formula_counts asked h (an_until_within b d {ts} {us} {f} {g} s t) =
    let a = formula_tokens prefix_level f in
    let z = formula_tokens prefix_level g in
    let middle = keyword keywords.Until ∷ within_tokens (bound_value b d) in
    subst (λ (vs : List TokenForm). Counts (ts ++ keyword keywords.Until ∷ keyword keywords.Within ∷ number b d ∷ us) (count vs)) (sym (tight_enough asked (until_within (bound_value b d) f g) h))
    (counts_fewer (ts ++ keyword keywords.Until ∷ keyword keywords.Within ∷ number b d ∷ us) (count a + (1 + (0 + (0 + count z)))) (count ((a ++ middle) ++ z)) (omega (arith, count_joined (a ++ middle) z, count_joined a middle))
    (counts_both ts (keyword keywords.Until ∷ keyword keywords.Within ∷ number b d ∷ us) (count a) (1 + (0 + (0 + count z))) (formula_counts prefix_level (omega arith) s)
    (counts_token (keyword keywords.Until) (keyword keywords.Within ∷ number b d ∷ us) (0 + (0 + count z)) refl (counts_token (keyword keywords.Within) (number b d ∷ us) (0 + count z) refl (counts_token (number b d) us (count z) refl (formula_counts prefix_level (omega arith) t))))))
formula_counts asked h (an_unless_within b d {ts} {us} {f} {g} s t) =
    let a = formula_tokens prefix_level f in
    let z = formula_tokens prefix_level g in
    let middle = keyword keywords.Unless ∷ within_tokens (bound_value b d) in
    subst (λ (vs : List TokenForm). Counts (ts ++ keyword keywords.Unless ∷ keyword keywords.Within ∷ number b d ∷ us) (count vs)) (sym (tight_enough asked (unless_within (bound_value b d) f g) h))
    (counts_fewer (ts ++ keyword keywords.Unless ∷ keyword keywords.Within ∷ number b d ∷ us) (count a + (1 + (0 + (0 + count z)))) (count ((a ++ middle) ++ z)) (omega (arith, count_joined (a ++ middle) z, count_joined a middle))
    (counts_both ts (keyword keywords.Unless ∷ keyword keywords.Within ∷ number b d ∷ us) (count a) (1 + (0 + (0 + count z))) (formula_counts prefix_level (omega arith) s)
    (counts_token (keyword keywords.Unless) (keyword keywords.Within ∷ number b d ∷ us) (0 + (0 + count z)) refl (counts_token (keyword keywords.Within) (number b d ∷ us) (0 + count z) refl (counts_token (number b d) us (count z) refl (formula_counts prefix_level (omega arith) t))))))
formula_counts asked h (a_release_within b d {ts} {us} {f} {g} s t) =
    let a = formula_tokens prefix_level f in
    let z = formula_tokens prefix_level g in
    let middle = keyword keywords.Release ∷ within_tokens (bound_value b d) in
    subst (λ (vs : List TokenForm). Counts (ts ++ keyword keywords.Release ∷ keyword keywords.Within ∷ number b d ∷ us) (count vs)) (sym (tight_enough asked (release_within (bound_value b d) f g) h))
    (counts_fewer (ts ++ keyword keywords.Release ∷ keyword keywords.Within ∷ number b d ∷ us) (count a + (1 + (0 + (0 + count z)))) (count ((a ++ middle) ++ z)) (omega (arith, count_joined (a ++ middle) z, count_joined a middle))
    (counts_both ts (keyword keywords.Release ∷ keyword keywords.Within ∷ number b d ∷ us) (count a) (1 + (0 + (0 + count z))) (formula_counts prefix_level (omega arith) s)
    (counts_token (keyword keywords.Release) (keyword keywords.Within ∷ number b d ∷ us) (0 + (0 + count z)) refl (counts_token (keyword keywords.Within) (number b d ∷ us) (0 + count z) refl (counts_token (number b d) us (count z) refl (formula_counts prefix_level (omega arith) t))))))

-- ---- statements

names_counts : {ts : List TokenForm} {xs : List (List ℕ)} → SpellsNames ts xs → Counts ts (count (names_tokens xs))
names_counts (one_name x) = counts_token (name x) [] 0 refl counts_none
names_counts (more_names x {ts} {xs} s) =
    subst (λ (us : List TokenForm). Counts (name x ∷ mark Comma ∷ ts) (count us)) (sym (more_names_is (cut_name x) s)) (counts_token (name x) (mark Comma ∷ ts) (0 + count (names_tokens xs)) refl (counts_token (mark Comma) ts (count (names_tokens xs)) refl (names_counts s)))

part_counts : {word : Keyword} {ts : List TokenForm} {xs : List (List ℕ)} → SpellsPart word ts xs → Counts ts (count (part_tokens word xs))
part_counts no_part = counts_none
part_counts {word = word} (a_part {ts} {xs} s) = subst (λ (us : List TokenForm). Counts (keyword word ∷ ts) (count us)) (sym (part_is word s)) (counts_token (keyword word) ts (count (names_tokens xs)) refl (names_counts s))

pattern_counts : {ts : List TokenForm} {p : Option (List ℕ)} → SpellsPattern ts p → Counts ts (count (pattern_tokens p))
pattern_counts no_pattern = counts_none
pattern_counts (a_pattern x) = counts_token (keyword keywords.Using) (name x ∷ []) 0 refl (counts_token (name x) [] 0 refl counts_none)

exact_counts : {ts : List TokenForm} {e : Bool} → SpellsExact ts e → Counts ts (count (exact_tokens e))
exact_counts not_exact = counts_none
exact_counts is_exact = counts_token (keyword keywords.Exact) [] 0 refl counts_none

role_counts : {t : TokenForm} {role : Role} (us : List TokenForm) (n : ℕ) → SpellsRole t role → Counts us n → Counts (t ∷ us) (weight (role_token role) + n)
role_counts us n a_pre a = counts_token (keyword keywords.Pre) us n refl a
role_counts us n a_trig a = counts_token (keyword keywords.Trig) us n refl a
role_counts us n a_post a = counts_token (keyword keywords.Post) us n refl a

range_counts : {ts : List TokenForm} {range : RangeForm} → SpellsRange ts range → Counts ts (count (range_tokens range))
range_counts a_boolean = counts_token (keyword keywords.Bool) [] 0 refl counts_none
range_counts (an_enumeration {ts} {xs} s) = counts_token (mark OpenBrace) (ts ++ mark CloseBrace ∷ []) (count (names_tokens xs ++ mark CloseBrace ∷ [])) refl (joined_counts (mark CloseBrace) (names_tokens xs) [] ts [] refl (names_counts s) counts_none)
range_counts (a_span s t d e) =
    counts_fewer (number s d ∷ mark Dots ∷ number t e ∷ []) 0 _ (omega (arith, value_weight (a_number (number_value s d)), value_weight (a_number (number_value t e)))) (counts_token (number s d) (mark Dots ∷ number t e ∷ []) 0 refl (counts_token (mark Dots) (number t e ∷ []) 0 refl (counts_token (number t e) [] 0 refl counts_none)))

sets_counts : {ts : List TokenForm} {sets : List Setting} → SpellsSets ts sets → Counts ts (count (separated (map set_tokens sets)))
sets_counts (one_set x t v e) =
    counts_fewer (name x ∷ mark Equal ∷ t ∷ []) (0 + (0 + (weight t + 0))) _ (omega (arith, value_weight v)) (counts_token (name x) (mark Equal ∷ t ∷ []) (0 + (weight t + 0)) refl (counts_token (mark Equal) (t ∷ []) (weight t + 0) refl (counts_token t [] 0 (value_no_semicolon t v e) counts_none)))
sets_counts (more_sets x t v {ts} {sets} e s) =
    let n = count (separated (map set_tokens sets)) in
    subst (λ (us : List TokenForm). Counts (name x ∷ mark Equal ∷ t ∷ mark Comma ∷ ts) (count us)) (sym (more_sets_is (record { variable = cut_name x; value = v }) s))
    (counts_fewer (name x ∷ mark Equal ∷ t ∷ mark Comma ∷ ts) (0 + (0 + (weight t + (0 + n)))) _ (omega (arith, value_weight v)) (counts_token (name x) (mark Equal ∷ t ∷ mark Comma ∷ ts) (0 + (weight t + (0 + n))) refl (counts_token (mark Equal) (t ∷ mark Comma ∷ ts) (weight t + (0 + n)) refl (counts_token t (mark Comma ∷ ts) (0 + n) (value_no_semicolon t v e) (counts_token (mark Comma) ts n refl (sets_counts s))))))

state_counts : {ts : List TokenForm} {sets : List Setting} → SpellsState ts sets → Counts ts (count (state_tokens sets))
state_counts an_empty_state = counts_token (mark OpenBrace) (mark CloseBrace ∷ []) 0 refl (counts_token (mark CloseBrace) [] 0 refl counts_none)
state_counts (a_state {ts} {sets} s) = counts_token (mark OpenBrace) (ts ++ mark CloseBrace ∷ []) (count (separated (map set_tokens sets) ++ mark CloseBrace ∷ [])) refl (joined_counts (mark CloseBrace) (separated (map set_tokens sets)) [] ts [] refl (sets_counts s) counts_none)

lists_counts : (a b ts us : List TokenForm) → Counts ts (count a) → Counts us (count b) → Counts (ts ++ us) (count (a ++ b))
lists_counts a b ts us x y = counts_fewer (ts ++ us) (count a + count b) (count (a ++ b)) (omega (arith, count_joined a b)) (counts_both ts us (count a) (count b) x y)

states_counts : {ts : List TokenForm} {ss : List (List Setting)} → SpellsStates ts ss → Counts ts (count (flat_map state_tokens ss))
states_counts no_state = counts_none
states_counts (one_more_state {ts} {us} {s} {ss} a b) = lists_counts (state_tokens s) (flat_map state_tokens ss) ts us (state_counts a) (states_counts b)

whole_counts : {ts : List TokenForm} {f : RawTree} → SpellsFormula whole_level ts f → Counts ts (count (whole_tokens f))
whole_counts s = formula_counts whole_level (omega arith) s

-- two tokens, of which none is a semicolon, before others
after_two : (t u : TokenForm) (a ts : List TokenForm) → is_semicolon t ≡ false → is_semicolon u ≡ false → Counts ts (count a) → Counts (t ∷ u ∷ ts) (weight t + (weight u + count a))
after_two t u a ts e f c = counts_token t (u ∷ ts) (weight u + count a) e (counts_token u ts (count a) f c)

after_three : (t u v : TokenForm) (a ts : List TokenForm) → is_semicolon t ≡ false → is_semicolon u ≡ false → is_semicolon v ≡ false → Counts ts (count a) → Counts (t ∷ u ∷ v ∷ ts) (weight t + (weight u + (weight v + count a)))
after_three t u v a ts e f g c = counts_token t (u ∷ v ∷ ts) (weight u + (weight v + count a)) e (after_two u v a ts f g c)

statement_counts : {ts : List TokenForm} {s : StatementForm} → SpellsStatement ts s → Counts ts (count (statement_tokens s))
unfolding statement_tokens
statement_counts (a_variable x {ts} {r} s) = after_three (keyword keywords.Var) (name x) (mark Colon) (range_tokens r) (ts) refl refl refl (range_counts s)
statement_counts (an_entity_type x {ts} {xs} s) =
    after_three (further furthers.Entity) (name x) (mark Colon) (mark OpenBrace ∷ names_tokens xs ++ mark CloseBrace ∷ []) (mark OpenBrace ∷ ts ++ mark CloseBrace ∷ []) refl refl refl
    (counts_token (mark OpenBrace) (ts ++ mark CloseBrace ∷ []) (count (names_tokens xs ++ mark CloseBrace ∷ [])) refl (joined_counts (mark CloseBrace) (names_tokens xs) [] ts [] refl (names_counts s) counts_none))
statement_counts (an_attribute x y {ts} {r} s) =
    after_three (further furthers.Attr) (name x) (keyword keywords.Of) (name (cut_name y) ∷ mark Colon ∷ range_tokens r) (name y ∷ mark Colon ∷ ts) refl refl refl
    (counts_token (name y) (mark Colon ∷ ts) (0 + count (range_tokens r)) refl (counts_token (mark Colon) ts (count (range_tokens r)) refl (range_counts s)))
statement_counts (a_domain x {ts} {f} s) = after_three (keyword keywords.Domain) (name x) (mark Colon) (whole_tokens f) (ts) refl refl refl (whole_counts s)
statement_counts (a_goal x {ts} {f} s) = after_three (keyword keywords.Goal) (name x) (mark Colon) (whole_tokens f) (ts) refl refl refl (whole_counts s)
statement_counts (an_obstacle x {ts} {f} s) = after_three (keyword keywords.Obstacle) (name x) (mark Colon) (whole_tokens f) (ts) refl refl refl (whole_counts s)
statement_counts (a_rule x {ts} {us} {f} {g} s t) = after_three (keyword keywords.Rule) (name x) (mark Colon) (formula_tokens iff_level f ++ keyword keywords.Entails ∷ formula_tokens iff_level g) (ts ++ keyword keywords.Entails ∷ us) refl refl refl (joined_counts (keyword keywords.Entails) (formula_tokens iff_level f) (formula_tokens iff_level g) ts us refl (formula_counts iff_level (omega arith) s) (formula_counts iff_level (omega arith) t))
statement_counts (a_refinement x {ts} {us} {xs} {p} s t) = after_three (keyword keywords.Refine) (name x) (keyword keywords.By) (names_tokens xs ++ pattern_tokens p) (ts ++ us) refl refl refl (lists_counts (names_tokens xs) (pattern_tokens p) ts us (names_counts s) (pattern_counts t))
statement_counts (an_obstruction x {ts} {xs} s) = after_three (keyword keywords.Obstruct) (name x) (keyword keywords.By) (names_tokens xs) (ts) refl refl refl (names_counts s)
statement_counts (a_conflict x y {ts} {us} {xs} {f} s t) = after_three (keyword keywords.Conflict) (name x) (mark Colon) (names_tokens (cut_name y ∷ xs) ++ keyword keywords.Boundary ∷ whole_tokens f) (name y ∷ mark Comma ∷ ts ++ keyword keywords.Boundary ∷ us) refl refl refl (joined_counts (keyword keywords.Boundary) (names_tokens (cut_name y ∷ xs)) (whole_tokens f) (name y ∷ mark Comma ∷ ts) us refl (names_counts (more_names y s)) (whole_counts t))
statement_counts (an_agent x {ts} {us} {xs} {ys} s t) = after_two (keyword keywords.Agent) (name x) (part_tokens keywords.Monitors xs ++ part_tokens keywords.Controls ys) (ts ++ us) refl refl (lists_counts (part_tokens keywords.Monitors xs) (part_tokens keywords.Controls ys) ts us (part_counts s) (part_counts t))
statement_counts (an_assignment x y) = after_three (keyword keywords.Assign) (name x) (keyword keywords.To) (name (cut_name y) ∷ []) (name y ∷ []) refl refl refl (counts_token (name y) [] 0 refl counts_none)
statement_counts (an_expectation x y) = after_three (keyword keywords.Expect) (name x) (keyword keywords.Of) (name (cut_name y) ∷ []) (name y ∷ []) refl refl refl (counts_token (name y) [] 0 refl counts_none)
statement_counts (an_operation x y {ts} {us} {f} {g} s t) = after_three (keyword keywords.Operation) (name x) (keyword keywords.By) (name (cut_name y) ∷ keyword keywords.Dompre ∷ whole_tokens f ++ keyword keywords.Dompost ∷ whole_tokens g) (name y ∷ keyword keywords.Dompre ∷ ts ++ keyword keywords.Dompost ∷ us) refl refl refl (after_two (name y) (keyword keywords.Dompre) (whole_tokens f ++ keyword keywords.Dompost ∷ whole_tokens g) (ts ++ keyword keywords.Dompost ∷ us) refl refl (joined_counts (keyword keywords.Dompost) (whole_tokens f) (whole_tokens g) ts us refl (whole_counts s) (whole_counts t)))
statement_counts (a_requirement x y t {role} {ts} {f} r s) = after_three (keyword keywords.Require) (name x) (keyword keywords.On) (name (cut_name y) ∷ role_token role ∷ whole_tokens f) (name y ∷ t ∷ ts) refl refl refl (counts_token (name y) (t ∷ ts) (weight (role_token role) + count (whole_tokens f)) refl (role_counts ts (count (whole_tokens f)) r (whole_counts s)))
statement_counts (an_operationalisation x {ts} {us} {xs} {e} s t) = after_three (keyword keywords.Operationalise) (name x) (keyword keywords.By) (names_tokens xs ++ exact_tokens e) (ts ++ us) refl refl refl (lists_counts (names_tokens xs) (exact_tokens e) ts us (names_counts s) (exact_counts t))
statement_counts (a_trace x {ts} {us} {vs} {prefix} {cycle} {s} p q r) = after_three (keyword keywords.Trace) (name x) (mark Colon) (flat_map state_tokens prefix ++ keyword keywords.Loop ∷ flat_map state_tokens (s ∷ cycle)) (ts ++ keyword keywords.Loop ∷ us ++ vs) refl refl refl (subst (λ (ws : List TokenForm). Counts ws (count (flat_map state_tokens prefix ++ keyword keywords.Loop ∷ flat_map state_tokens (s ∷ cycle)))) (sym (append_assoc ts (keyword keywords.Loop ∷ us) vs)) (joined_counts (keyword keywords.Loop) (flat_map state_tokens prefix) (flat_map state_tokens (s ∷ cycle)) ts (us ++ vs) refl (states_counts p) (lists_counts (state_tokens s) (flat_map state_tokens cycle) us vs (state_counts q) (states_counts r))))

-- ---- texts

statements_count : {ts : List TokenForm} {ss : List StatementForm} → SpellsStatements ts ss → most_operators 0 (flat_map ended_tokens ss) ≤ most_operators 0 ts
unfolding most_operators
statements_count no_statement = omega arith
statements_count (one_more {ts} {us} {s} {ss} a b) =
    let written = at_most_counts 0 (statement_tokens s) (flat_map ended_tokens ss) in
    let read = statement_counts a 0 (mark Semicolon ∷ us) in
    let others = statements_count b in
    subst (λ (vs : List TokenForm). most_operators 0 vs ≤ most_operators 0 (ts ++ mark Semicolon ∷ us)) (sym (append_assoc (statement_tokens s) (mark Semicolon ∷ []) (flat_map ended_tokens ss))) (omega arith)

pub text_count : {ts : List TokenForm} {ss : List StatementForm} → SpellsText ts ss → most_operators 0 (flat_map ended_tokens ss) ≤ most_operators 0 ts
unfolding most_operators statement_tokens
text_count (a_text b d is s) = let others = statements_count s in omega arith
text_count (a_second_text b d is s) = let others = statements_count s in omega arith
