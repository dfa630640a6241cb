-- What is spelled is read so, by the levels of the grammar.
use Rattle.std.proofs.Common.{◌≡◌, ℕ, zero, suc, ◌-◌, ◌<◌, ◌≤◌, Bool, true, List, [], ◌∷◌, ◌++◌, length, Option, Some, None, Ok, refl, ap, ◌∙◌, append_assoc, length-append, arith}
use Rattle.std.specs.Prelude.{◌&&◌, is_none}
use Rattle.state_space.specs.declared.keyword.Keyword.{Keyword}
use Rattle.state_space.specs.declared.keyword.Keyword.TheVariants as keywords
use Rattle.model_tokens.specs.declared.token.Sign.{Sign}
use Rattle.model_tokens.specs.declared.token.Sign.TheVariants.{Colon, Comma, OpenParenthesis, CloseParenthesis, OpenBrace, CloseBrace}
use Rattle.model_text.specs.declared.formula_reader.Opening.{Opening}
use Rattle.model_text.specs.declared.formula_reader.Opening.TheVariants as openings
use Rattle.model_text.specs.declared.formula_reader.Joining.{Joining}
use Rattle.model_text.specs.declared.formula_reader.Joining.TheVariants as joinings
use Rattle.model_tokens.specs.declared.token.Further.TheVariants as furthers
use Rattle.temporal_logic.specs.Ltl.{Relation}
use Rattle.model_tokens.specs.Tokens.{TokenForm, keyword, mark, name, number, further}
use Rattle.model_text.specs.RawTrees.{WrittenValue, a_word, a_number, a_truth, an_attribute, RawTree, truth, falsity, bare, compares, among, bare_of, compares_of, among_of, conj, disj, implies, iff, entails, for_all, for_some}
use Rattle.model_tokens.specs.Values.{cut_name, bound_value}
use Rattle.model_text.specs.Leaves.{relation_of, value_of}
use Rattle.model_text.specs.FormulaGrammar.{Level, whole_level, iff_level, implies_level, or_level, and_level, tempo_level, prefix_level, primary_level, argument, SpellsValues, one_value, more_values, SpellsRight, a_value, an_attribute_value, SpellsFormula, a_truth, a_falsity, in_parentheses, a_flag, a_comparison, a_choice, a_flag_of, a_comparison_of, a_choice_of, a_universal, an_existential, a_primary, a_negation, a_next, an_eventually, an_always, an_eventually_within, an_always_within, a_prefix, an_until, an_unless, a_release, an_until_within, an_unless_within, a_release_within, a_tempo, a_conjunction, a_conjunct, a_disjunction, a_disjunct, an_implication, a_side, an_equivalence, a_whole, an_entailment}
use Rattle.model_text.specs.Reading.{Reading, and_then, behind_keyword, behind_mark, behind_further, name_at}
use Rattle.model_text.specs.FormulaReading.{Reads, if_behind, read_as, bound_at, value_or_fault, value_at, with_rest, comparison_at, more_values_at, values_at, choice_at, argument_at, right_behind, right_at, bare_with, compares_with, among_with, atom_by, atom_at, closed, primary_with, head_at, quantified_with, simple_with, opening_at, opened, prefix_with, joining_at, joined, tempo_with, chain, and_with, or_with, with_right, implies_from, implies_with, iff_with, whole_with, prefix_at, ends_atom, ends_tempo, ends_and, ends_or, ends_implies, ends_iff, ends_whole}
use Rattle.model_text.proofs.FormulaTokens.{both_left, both_right, none_is}
use Rattle.model_text.proofs.FormulaTurns.{chain_more, chain_done, values_more, values_done}

-- ---- the tokens behind a level

tempo_ended : (ts : List TokenForm) → ends_tempo ts ≡ true → joining_at ts ≡ Ok (None, ts)
unfolding joining_at
tempo_ended ts e =
    let three = both_right (ends_atom ts) (is_none (behind_keyword keywords.Until ts) && (is_none (behind_keyword keywords.Unless ts) && is_none (behind_keyword keywords.Release ts))) e in
    let two = both_right (is_none (behind_keyword keywords.Until ts)) (is_none (behind_keyword keywords.Unless ts) && is_none (behind_keyword keywords.Release ts)) three in
    none_joins (behind_keyword keywords.Until ts) (behind_keyword keywords.Unless ts) (behind_keyword keywords.Release ts) (none_is (behind_keyword keywords.Until ts) (both_left (is_none (behind_keyword keywords.Until ts)) (is_none (behind_keyword keywords.Unless ts) && is_none (behind_keyword keywords.Release ts)) three)) (none_is (behind_keyword keywords.Unless ts) (both_left (is_none (behind_keyword keywords.Unless ts)) (is_none (behind_keyword keywords.Release ts)) two)) (none_is (behind_keyword keywords.Release ts) (both_right (is_none (behind_keyword keywords.Unless ts)) (is_none (behind_keyword keywords.Release ts)) two))
  where
    none_joins : (a b c : Option (List TokenForm)) → a ≡ None → b ≡ None → c ≡ None
        → if_behind a (λ rest. read_as (λ d. Some (joinings.Until d)) (bound_at rest)) (if_behind b (λ rest. read_as (λ d. Some (joinings.Unless d)) (bound_at rest)) (if_behind c (λ rest. read_as (λ d. Some (joinings.Release d)) (bound_at rest)) (Ok (None, ts)))) ≡ Ok (None, ts)
    none_joins None None None a b c = refl
    none_joins (Some x) b c p q r = absurd cc
    none_joins None (Some x) c p q r = absurd cc
    none_joins None None (Some x) p q r = absurd cc

pub atom_of_tempo : (ts : List TokenForm) → ends_tempo ts ≡ true → ends_atom ts ≡ true
atom_of_tempo ts e = both_left (ends_atom ts) (is_none (behind_keyword keywords.Until ts) && (is_none (behind_keyword keywords.Unless ts) && is_none (behind_keyword keywords.Release ts))) e

and_ended : (ts : List TokenForm) → ends_and ts ≡ true → behind_keyword keywords.And ts ≡ None
and_ended ts e = none_is (behind_keyword keywords.And ts) (both_right (ends_tempo ts) (is_none (behind_keyword keywords.And ts)) e)

or_ended : (ts : List TokenForm) → ends_or ts ≡ true → behind_keyword keywords.Or ts ≡ None
or_ended ts e = none_is (behind_keyword keywords.Or ts) (both_right (ends_and ts) (is_none (behind_keyword keywords.Or ts)) e)

implies_ended : (ts : List TokenForm) → ends_implies ts ≡ true → behind_keyword keywords.Implies ts ≡ None
implies_ended ts e = none_is (behind_keyword keywords.Implies ts) (both_right (ends_or ts) (is_none (behind_keyword keywords.Implies ts)) e)

iff_ended : (ts : List TokenForm) → ends_iff ts ≡ true → behind_keyword keywords.Iff ts ≡ None
iff_ended ts e = none_is (behind_keyword keywords.Iff ts) (both_right (ends_implies ts) (is_none (behind_keyword keywords.Iff ts)) e)

whole_ended : (ts : List TokenForm) → ends_whole ts ≡ true → behind_keyword keywords.Entails ts ≡ None
whole_ended ts e = none_is (behind_keyword keywords.Entails ts) (both_right (ends_iff ts) (is_none (behind_keyword keywords.Entails ts)) e)

tempo_of_and : (ts : List TokenForm) → ends_and ts ≡ true → ends_tempo ts ≡ true
tempo_of_and ts e = both_left (ends_tempo ts) (is_none (behind_keyword keywords.And ts)) e

and_of_or : (ts : List TokenForm) → ends_or ts ≡ true → ends_and ts ≡ true
and_of_or ts e = both_left (ends_and ts) (is_none (behind_keyword keywords.Or ts)) e

or_of_implies : (ts : List TokenForm) → ends_implies ts ≡ true → ends_or ts ≡ true
or_of_implies ts e = both_left (ends_or ts) (is_none (behind_keyword keywords.Implies ts)) e

implies_of_iff : (ts : List TokenForm) → ends_iff ts ≡ true → ends_implies ts ≡ true
implies_of_iff ts e = both_left (ends_implies ts) (is_none (behind_keyword keywords.Iff ts)) e

iff_of_whole : (ts : List TokenForm) → ends_whole ts ≡ true → ends_iff ts ≡ true
iff_of_whole ts e = both_left (ends_iff ts) (is_none (behind_keyword keywords.Entails ts)) e

-- ---- leaves

-- no name in brackets stands behind
no_argument : (ts : List TokenForm) → ends_atom ts ≡ true → behind_further furthers.OpenArgument ts ≡ None
no_argument ts e =
    none_is (behind_further furthers.OpenArgument ts) (both_right (is_none (behind_keyword keywords.In ts)) (is_none (behind_further furthers.OpenArgument ts)) (both_right (is_none (comparison_at ts)) (is_none (behind_keyword keywords.In ts) && is_none (behind_further furthers.OpenArgument ts)) e))

argument_none : (ts : List TokenForm) → behind_further furthers.OpenArgument ts ≡ None → argument_at ts ≡ Ok (None, ts)
unfolding argument_at
argument_none ts e = rw e refl

flag_by : (x : List ℕ) (a : Option (List ℕ)) (ts : List TokenForm) (o : Option (Relation × List TokenForm)) (i : Option (List TokenForm)) → o ≡ None → behind_keyword keywords.In ts ≡ i → i ≡ None → atom_by x a ts o ≡ Ok (bare_with x a, ts)
flag_by x a ts (Some compared) i e s k = absurd cc
flag_by x a ts None i e s k = let none = s ∙ k in rw none refl

flag_read : (x : List ℕ) (a : Option (List ℕ)) (ts : List TokenForm) → ends_atom ts ≡ true → atom_by x a ts (comparison_at ts) ≡ Ok (bare_with x a, ts)
flag_read x a ts e =
    let others = is_none (behind_keyword keywords.In ts) && is_none (behind_further furthers.OpenArgument ts) in
    let compared = none_is (comparison_at ts) (both_left (is_none (comparison_at ts)) others e) in
    let chosen = none_is (behind_keyword keywords.In ts) (both_left (is_none (behind_keyword keywords.In ts)) (is_none (behind_further furthers.OpenArgument ts)) (both_right (is_none (comparison_at ts)) others e)) in
    flag_by x a ts (comparison_at ts) (behind_keyword keywords.In ts) compared refl chosen

pub value_read : (t : TokenForm) (v : WrittenValue) (rest : List TokenForm) → value_of t ≡ Some v → value_at (t ∷ rest) ≡ Ok (v, rest)
unfolding value_at
value_read t v rest e = ap (λ (o : Option WrittenValue). value_or_fault o t rest) e

value_behind : (v : WrittenValue) (rest : List TokenForm) → behind_further furthers.OpenArgument rest ≡ None → right_behind v rest ≡ Ok (v, rest)
value_behind (a_word f) rest e = rw (argument_none rest e) refl
value_behind (a_number n) rest e = refl
value_behind (a_truth b) rest e = refl
value_behind (an_attribute f x) rest e = refl

right_read : {ts : List TokenForm} {v : WrittenValue} → SpellsRight ts v → (rest : List TokenForm) → behind_further furthers.OpenArgument rest ≡ None → right_at (ts ++ rest) ≡ Ok (v, rest)
unfolding right_at value_at argument_at name_at
right_read (a_value t v is) rest e = rw (value_read t v rest is) (value_behind v rest e)
right_read (an_attribute_value f x) rest e = refl

comparison_read : (x : List ℕ) (a : Option (List ℕ)) (m : Sign) (r : Relation) {ts : List TokenForm} {v : WrittenValue} (rest : List TokenForm) → relation_of m ≡ Some r → SpellsRight ts v → ends_atom rest ≡ true
    → atom_by x a (mark m ∷ (ts ++ rest)) (comparison_at (mark m ∷ (ts ++ rest))) ≡ Ok (compares_with x a r v, rest)
comparison_read x a m r {ts} rest is s e =
    ap (λ (o : Option Relation). atom_by x a (mark m ∷ (ts ++ rest)) (with_rest o (ts ++ rest))) is ∙ ap (λ (o : Reading WrittenValue). read_as (compares_with x a r) o) (right_read s rest (no_argument rest e))

-- a list of values, behind others
abbrev ValuesRead : List TokenForm → List WrittenValue → Type 0
ValuesRead ts vs = (rest : List TokenForm) → behind_mark Comma rest ≡ None → (n : ℕ) (front : List WrittenValue) → length (ts ++ rest) ≤ n
    → and_then (value_at (ts ++ rest)) (λ v more. more_values_at n (front ++ v ∷ []) more) ≡ Ok (front ++ vs, rest)

more_values_read : (t : TokenForm) (v : WrittenValue) (ts : List TokenForm) (vs : List WrittenValue) → value_of t ≡ Some v → ValuesRead ts vs → ValuesRead (t ∷ mark Comma ∷ ts) (v ∷ vs)
more_values_read t v ts vs is later rest ends n front h =
    let here = value_read t v (mark Comma ∷ (ts ++ rest)) is in
    let turn = values_more n (front ++ v ∷ []) (mark Comma ∷ (ts ++ rest)) (ts ++ rest) (omega arith) refl in
    let others = later rest ends (n - 1) (front ++ v ∷ []) (omega arith) in
    rw here (turn ∙ others ∙ ap (λ (ws : List WrittenValue). ok_with ws rest) (append_assoc front (v ∷ []) vs))
  where
    ok_with : List WrittenValue → List TokenForm → Reading (List WrittenValue)
    ok_with ws us = Ok (ws, us)

values_behind_read : {ts : List TokenForm} {vs : List WrittenValue} → SpellsValues ts vs → ValuesRead ts vs
values_behind_read (one_value t v is) rest ends n front h = rw (value_read t v rest is) (values_done n (front ++ v ∷ []) rest ends)
values_behind_read (more_values t v ts vs is s) rest ends n front h = more_values_read t v ts vs is (values_behind_read s) rest ends n front h

values_read : {ts : List TokenForm} {vs : List WrittenValue} → SpellsValues ts vs → (rest : List TokenForm) → behind_mark Comma rest ≡ None → values_at (ts ++ rest) ≡ Ok (vs, rest)
unfolding values_at
values_read (one_value t v is) rest ends = rw (value_read t v rest is) (values_done (length rest) (v ∷ []) rest ends)
values_read (more_values t v ts vs is s) rest ends =
    rw (value_read t v (mark Comma ∷ (ts ++ rest)) is) (values_more (length (mark Comma ∷ (ts ++ rest))) (v ∷ []) (mark Comma ∷ (ts ++ rest)) (ts ++ rest) (omega arith) refl ∙ values_behind_read s rest ends (length (mark Comma ∷ (ts ++ rest)) - 1) (v ∷ []) (omega arith))

choice_read : (x : List ℕ) (a : Option (List ℕ)) {ts : List TokenForm} {vs : List WrittenValue} → SpellsValues ts vs → (rest : List TokenForm)
    → atom_by x a (keyword keywords.In ∷ mark OpenBrace ∷ (ts ++ mark CloseBrace ∷ rest)) (comparison_at (keyword keywords.In ∷ mark OpenBrace ∷ (ts ++ mark CloseBrace ∷ rest))) ≡ Ok (among_with x a vs, rest)
unfolding choice_at
choice_read x a {ts} s rest = rw (values_read s (mark CloseBrace ∷ rest) refl) refl

-- ---- operators of one operand

bound_none : (ts : List TokenForm) → behind_keyword keywords.Within ts ≡ None → bound_at ts ≡ Ok (None, ts)
unfolding bound_at
bound_none ts e = rw e refl

-- no operand begins with `within`
pub no_bound : {l : Level} {ts : List TokenForm} {f : RawTree} → SpellsFormula l ts f → (rest : List TokenForm) → behind_keyword keywords.Within (ts ++ rest) ≡ None
no_bound a_truth rest = refl
no_bound a_falsity rest = refl
no_bound (in_parentheses s) rest = refl
no_bound (a_flag x) rest = refl
no_bound (a_comparison x m r is s) rest = refl
no_bound (a_flag_of f x) rest = refl
no_bound (a_comparison_of f x m r is s) rest = refl
no_bound (a_choice_of f x s) rest = refl
no_bound (a_universal x e s) rest = refl
no_bound (an_existential x e s) rest = refl
no_bound (a_choice x s) rest = refl
no_bound (a_primary s) rest = no_bound s rest
no_bound (a_negation s) rest = refl
no_bound (a_next s) rest = refl
no_bound (an_eventually s) rest = refl
no_bound (an_always s) rest = refl
no_bound (an_eventually_within b d s) rest = refl
no_bound (an_always_within b d s) rest = refl
no_bound (a_prefix s) rest = no_bound s rest
no_bound (an_until {ts} {us} s t) rest = ap (behind_keyword keywords.Within) (append_assoc ts (keyword keywords.Until ∷ us) rest) ∙ no_bound s (keyword keywords.Until ∷ (us ++ rest))
no_bound (an_unless {ts} {us} s t) rest = ap (behind_keyword keywords.Within) (append_assoc ts (keyword keywords.Unless ∷ us) rest) ∙ no_bound s (keyword keywords.Unless ∷ (us ++ rest))
no_bound (a_release {ts} {us} s t) rest = ap (behind_keyword keywords.Within) (append_assoc ts (keyword keywords.Release ∷ us) rest) ∙ no_bound s (keyword keywords.Release ∷ (us ++ rest))
no_bound (an_until_within b d {ts} {us} s t) rest = ap (behind_keyword keywords.Within) (append_assoc ts (keyword keywords.Until ∷ keyword keywords.Within ∷ number b d ∷ us) rest) ∙ no_bound s (keyword keywords.Until ∷ keyword keywords.Within ∷ number b d ∷ (us ++ rest))
no_bound (an_unless_within b d {ts} {us} s t) rest = ap (behind_keyword keywords.Within) (append_assoc ts (keyword keywords.Unless ∷ keyword keywords.Within ∷ number b d ∷ us) rest) ∙ no_bound s (keyword keywords.Unless ∷ keyword keywords.Within ∷ number b d ∷ (us ++ rest))
no_bound (a_release_within b d {ts} {us} s t) rest = ap (behind_keyword keywords.Within) (append_assoc ts (keyword keywords.Release ∷ keyword keywords.Within ∷ number b d ∷ us) rest) ∙ no_bound s (keyword keywords.Release ∷ keyword keywords.Within ∷ number b d ∷ (us ++ rest))
no_bound (a_tempo s) rest = no_bound s rest
no_bound (a_conjunction {ts} {us} s t) rest = ap (behind_keyword keywords.Within) (append_assoc ts (keyword keywords.And ∷ us) rest) ∙ no_bound s (keyword keywords.And ∷ (us ++ rest))
no_bound (a_conjunct s) rest = no_bound s rest
no_bound (a_disjunction {ts} {us} s t) rest = ap (behind_keyword keywords.Within) (append_assoc ts (keyword keywords.Or ∷ us) rest) ∙ no_bound s (keyword keywords.Or ∷ (us ++ rest))
no_bound (a_disjunct s) rest = no_bound s rest
no_bound (an_implication {ts} {us} s t) rest = ap (behind_keyword keywords.Within) (append_assoc ts (keyword keywords.Implies ∷ us) rest) ∙ no_bound s (keyword keywords.Implies ∷ (us ++ rest))
no_bound (a_side s) rest = no_bound s rest
no_bound (an_equivalence {ts} {us} s t) rest = ap (behind_keyword keywords.Within) (append_assoc ts (keyword keywords.Iff ∷ us) rest) ∙ no_bound s (keyword keywords.Iff ∷ (us ++ rest))
no_bound (a_whole s) rest = no_bound s rest
no_bound (an_entailment {ts} {us} s t) rest = ap (behind_keyword keywords.Within) (append_assoc ts (keyword keywords.Entails ∷ us) rest) ∙ no_bound s (keyword keywords.Entails ∷ (us ++ rest))

-- ---- levels

-- the reader of a chain's level has read an operand and goes on with the chain
abbrev Chains : Keyword → (RawTree → RawTree → RawTree) → (whole operand : Reads) → List TokenForm → RawTree → List TokenForm → Type 0
Chains k make whole operand ts f rest = (n : ℕ) × (length rest ≤ n) × (whole (ts ++ rest) ≡ chain (behind_keyword k) make operand n f rest)

-- the level's reader, at tokens that begin so
abbrev IsRead : Level → List TokenForm → RawTree → Type 0
IsRead primary_level ts f = (d : ℕ) (rest : List TokenForm) → length (ts ++ rest) ≤ d → ends_atom rest ≡ true → prefix_at d (ts ++ rest) ≡ Ok (f, rest)
IsRead prefix_level ts f = (d : ℕ) (rest : List TokenForm) → length (ts ++ rest) ≤ d → ends_atom rest ≡ true → prefix_at d (ts ++ rest) ≡ Ok (f, rest)
IsRead tempo_level ts f = (d : ℕ) (rest : List TokenForm) → length (ts ++ rest) ≤ d → ends_tempo rest ≡ true → tempo_with (prefix_at d) (ts ++ rest) ≡ Ok (f, rest)
IsRead and_level ts f = (d : ℕ) (rest : List TokenForm) → length (ts ++ rest) ≤ d → ends_tempo rest ≡ true → Chains keywords.And conj (and_with (prefix_at d)) (tempo_with (prefix_at d)) ts f rest
IsRead or_level ts f = (d : ℕ) (rest : List TokenForm) → length (ts ++ rest) ≤ d → ends_and rest ≡ true → Chains keywords.Or disj (or_with (prefix_at d)) (and_with (prefix_at d)) ts f rest
IsRead implies_level ts f = (d : ℕ) (rest : List TokenForm) → length (ts ++ rest) ≤ d → ends_implies rest ≡ true → (n : ℕ) → length (ts ++ rest) ≤ n → implies_from (prefix_at d) n (ts ++ rest) ≡ Ok (f, rest)
IsRead iff_level ts f = (d : ℕ) (rest : List TokenForm) → length (ts ++ rest) ≤ d → ends_iff rest ≡ true → iff_with (prefix_at d) (ts ++ rest) ≡ Ok (f, rest)
IsRead whole_level ts f = (d : ℕ) (rest : List TokenForm) → length (ts ++ rest) ≤ d → ends_whole rest ≡ true → whole_with (prefix_at d) (ts ++ rest) ≡ Ok (f, rest)

truth_read : IsRead primary_level (keyword keywords.True ∷ []) truth
unfolding prefix_at prefix_with opening_at simple_with primary_with
truth_read zero rest h e = let never : ⊥ = omega arith in absurd never
truth_read (suc d) rest h e = refl

falsity_read : IsRead primary_level (keyword keywords.False ∷ []) falsity
unfolding prefix_at prefix_with opening_at simple_with primary_with
falsity_read zero rest h e = let never : ⊥ = omega arith in absurd never
falsity_read (suc d) rest h e = refl

parentheses_read : (ts : List TokenForm) (f : RawTree) → IsRead whole_level ts f → IsRead primary_level (mark OpenParenthesis ∷ ts ++ mark CloseParenthesis ∷ []) f
unfolding prefix_at prefix_with opening_at simple_with primary_with
parentheses_read ts f read zero rest h e = let never : ⊥ = omega arith in absurd never
parentheses_read ts f read (suc d) rest h e =
    let same : (ts ++ mark CloseParenthesis ∷ []) ++ rest ≡ ts ++ mark CloseParenthesis ∷ rest = append_assoc ts (mark CloseParenthesis ∷ []) rest in
    let inner : whole_with (prefix_at d) ((ts ++ mark CloseParenthesis ∷ []) ++ rest) ≡ Ok (f, mark CloseParenthesis ∷ rest) = ap (whole_with (prefix_at d)) same ∙ read d (mark CloseParenthesis ∷ rest) (omega (arith, ap length same)) refl in
    rw inner refl

flag_is_read : (x : List ℕ) → IsRead primary_level (name x ∷ []) (bare (cut_name x))
unfolding prefix_at prefix_with opening_at simple_with primary_with atom_at name_at
flag_is_read x zero rest h e = let never : ⊥ = omega arith in absurd never
flag_is_read x (suc d) rest h e = rw (argument_none rest (no_argument rest e)) (flag_read (cut_name x) None rest e)

comparison_is_read : (x : List ℕ) (m : Sign) (r : Relation) {ts : List TokenForm} {v : WrittenValue} → relation_of m ≡ Some r → SpellsRight ts v → IsRead primary_level (name x ∷ mark m ∷ ts) (compares (cut_name x) r v)
unfolding prefix_at prefix_with opening_at simple_with primary_with atom_at argument_at name_at
comparison_is_read x m r is s zero rest h e = let never : ⊥ = omega arith in absurd never
comparison_is_read x m r is s (suc d) rest h e = comparison_read (cut_name x) None m r rest is s e

choice_is_read : (x : List ℕ) {ts : List TokenForm} {vs : List WrittenValue} → SpellsValues ts vs → IsRead primary_level (name x ∷ keyword keywords.In ∷ mark OpenBrace ∷ ts ++ mark CloseBrace ∷ []) (among (cut_name x) vs)
unfolding prefix_at prefix_with opening_at simple_with primary_with atom_at argument_at name_at
choice_is_read x s zero rest h e = let never : ⊥ = omega arith in absurd never
choice_is_read x {ts} s (suc d) rest h e =
    let same = append_assoc ts (mark CloseBrace ∷ []) rest in
    ap (λ (us : List TokenForm). atom_by (cut_name x) None (keyword keywords.In ∷ mark OpenBrace ∷ us) (comparison_at (keyword keywords.In ∷ mark OpenBrace ∷ us))) same ∙ choice_read (cut_name x) None s rest

flag_of_is_read : (f x : List ℕ) → IsRead primary_level (name f ∷ argument x []) (bare_of (cut_name f) (cut_name x))
unfolding prefix_at prefix_with opening_at simple_with primary_with atom_at argument_at name_at
flag_of_is_read f x zero rest h e = let never : ⊥ = omega arith in absurd never
flag_of_is_read f x (suc d) rest h e = flag_read (cut_name f) (Some (cut_name x)) rest e

comparison_of_is_read : (f x : List ℕ) (m : Sign) (r : Relation) {ts : List TokenForm} {v : WrittenValue} → relation_of m ≡ Some r → SpellsRight ts v → IsRead primary_level (name f ∷ argument x (mark m ∷ ts)) (compares_of (cut_name f) (cut_name x) r v)
unfolding prefix_at prefix_with opening_at simple_with primary_with atom_at argument_at name_at
comparison_of_is_read f x m r is s zero rest h e = let never : ⊥ = omega arith in absurd never
comparison_of_is_read f x m r is s (suc d) rest h e = comparison_read (cut_name f) (Some (cut_name x)) m r rest is s e

choice_of_is_read : (f x : List ℕ) {ts : List TokenForm} {vs : List WrittenValue} → SpellsValues ts vs → IsRead primary_level (name f ∷ argument x (keyword keywords.In ∷ mark OpenBrace ∷ ts ++ mark CloseBrace ∷ [])) (among_of (cut_name f) (cut_name x) vs)
unfolding prefix_at prefix_with opening_at simple_with primary_with atom_at argument_at name_at
choice_of_is_read f x s zero rest h e = let never : ⊥ = omega arith in absurd never
choice_of_is_read f x {ts} s (suc d) rest h e =
    let same = append_assoc ts (mark CloseBrace ∷ []) rest in
    ap (λ (us : List TokenForm). atom_by (cut_name f) (Some (cut_name x)) (keyword keywords.In ∷ mark OpenBrace ∷ us) (comparison_at (keyword keywords.In ∷ mark OpenBrace ∷ us))) same ∙ choice_read (cut_name f) (Some (cut_name x)) s rest

-- the formula behind a quantifier, its bound name and its type
body_read : (ts : List TokenForm) (f : RawTree) → IsRead whole_level ts f → (d : ℕ) (rest : List TokenForm) → length (ts ++ mark CloseParenthesis ∷ rest) ≤ d → closed (whole_with (prefix_at d) ((ts ++ mark CloseParenthesis ∷ []) ++ rest)) ≡ Ok (f, rest)
body_read ts f read d rest h =
    let same : (ts ++ mark CloseParenthesis ∷ []) ++ rest ≡ ts ++ mark CloseParenthesis ∷ rest = append_assoc ts (mark CloseParenthesis ∷ []) rest in
    let inner : whole_with (prefix_at d) ((ts ++ mark CloseParenthesis ∷ []) ++ rest) ≡ Ok (f, mark CloseParenthesis ∷ rest) = ap (whole_with (prefix_at d)) same ∙ read d (mark CloseParenthesis ∷ rest) h refl in
    rw inner refl

universal_is_read : (x k : List ℕ) (ts : List TokenForm) (f : RawTree) → IsRead whole_level ts f
    → IsRead prefix_level (further furthers.All ∷ name x ∷ mark Colon ∷ name k ∷ further furthers.OpenArgument ∷ ts ++ mark CloseParenthesis ∷ []) (for_all (cut_name x) (cut_name k) f)
unfolding prefix_at prefix_with opening_at simple_with quantified_with head_at name_at
universal_is_read x k ts f read zero rest h e = let never : ⊥ = omega arith in absurd never
universal_is_read x k ts f read (suc d) rest h e =
    let short : length (ts ++ mark CloseParenthesis ∷ rest) ≤ d = omega (arith, ap length (append_assoc ts (mark CloseParenthesis ∷ []) rest)) in
    rw (body_read ts f read d rest short) refl

existential_is_read : (x k : List ℕ) (ts : List TokenForm) (f : RawTree) → IsRead whole_level ts f
    → IsRead prefix_level (further furthers.Some ∷ name x ∷ mark Colon ∷ name k ∷ further furthers.OpenArgument ∷ ts ++ mark CloseParenthesis ∷ []) (for_some (cut_name x) (cut_name k) f)
unfolding prefix_at prefix_with opening_at simple_with quantified_with head_at name_at
existential_is_read x k ts f read zero rest h e = let never : ⊥ = omega arith in absurd never
existential_is_read x k ts f read (suc d) rest h e =
    let short : length (ts ++ mark CloseParenthesis ∷ rest) ≤ d = omega (arith, ap length (append_assoc ts (mark CloseParenthesis ∷ []) rest)) in
    rw (body_read ts f read d rest short) refl

-- an operator with its bound, before an operand
opening_is_read : (front : List TokenForm) (o : Opening) (ts : List TokenForm) (f : RawTree) → 0 < length front
    → ((rest : List TokenForm) → opening_at (front ++ (ts ++ rest)) ≡ Ok (Some o, ts ++ rest)) → IsRead prefix_level ts f → IsRead prefix_level (front ++ ts) (opened o f)
unfolding prefix_at prefix_with
opening_is_read front o ts f some at read zero rest h e = let never : ⊥ = omega (arith, length-append (front ++ ts) rest, length-append front ts) in absurd never
opening_is_read front o ts f some at read (suc d) rest h e =
    let short : length (ts ++ rest) ≤ d = omega (arith, length-append (front ++ ts) rest, length-append front ts, length-append ts rest) in
    rw append_assoc (rw (at rest) (rw (read d rest short e) refl))

not_at : (ts : List TokenForm) → opening_at (keyword keywords.Not ∷ ts) ≡ Ok (Some openings.Not, ts)
unfolding opening_at
not_at ts = refl

next_at : (ts : List TokenForm) → opening_at (keyword keywords.Next ∷ ts) ≡ Ok (Some openings.Next, ts)
unfolding opening_at
next_at ts = refl

eventually_at : (ts : List TokenForm) → behind_keyword keywords.Within ts ≡ None → opening_at (keyword keywords.Eventually ∷ ts) ≡ Ok (Some (openings.Eventually None), ts)
unfolding opening_at
eventually_at ts e = rw (bound_none ts e) refl

always_at : (ts : List TokenForm) → behind_keyword keywords.Within ts ≡ None → opening_at (keyword keywords.Always ∷ ts) ≡ Ok (Some (openings.Always None), ts)
unfolding opening_at
always_at ts e = rw (bound_none ts e) refl

eventually_within_at : (s : Bool) (d : List ℕ) (ts : List TokenForm) → opening_at (keyword keywords.Eventually ∷ keyword keywords.Within ∷ number s d ∷ ts) ≡ Ok (Some (openings.Eventually (Some (bound_value s d))), ts)
unfolding opening_at bound_at
eventually_within_at s d ts = refl

always_within_at : (s : Bool) (d : List ℕ) (ts : List TokenForm) → opening_at (keyword keywords.Always ∷ keyword keywords.Within ∷ number s d ∷ ts) ≡ Ok (Some (openings.Always (Some (bound_value s d))), ts)
unfolding opening_at bound_at
always_within_at s d ts = refl

-- ---- operators of two operands over time

prefix_is_read : (ts : List TokenForm) (f : RawTree) → IsRead prefix_level ts f → IsRead tempo_level ts f
unfolding tempo_with
prefix_is_read ts f read d rest h e = rw (read d rest h (atom_of_tempo rest e)) (rw (tempo_ended rest e) refl)

-- an operator with its bound, between two operands
joining_is_read : (middle : List TokenForm) (j : Joining) (ts us : List TokenForm) (f g : RawTree)
    → ((rest : List TokenForm) → ends_atom (middle ++ rest) ≡ true) → ((rest : List TokenForm) → joining_at (middle ++ (us ++ rest)) ≡ Ok (Some j, us ++ rest))
    → IsRead prefix_level ts f → IsRead prefix_level us g → IsRead tempo_level (ts ++ (middle ++ us)) (joined j f g)
unfolding tempo_with
joining_is_read middle j ts us f g ends at first second d rest h e =
    let same : (ts ++ (middle ++ us)) ++ rest ≡ ts ++ (middle ++ (us ++ rest)) = append_assoc ts (middle ++ us) rest ∙ ap (λ (x : List TokenForm). ts ++ x) (append_assoc middle us rest) in
    let left = first d (middle ++ (us ++ rest)) (omega (arith, ap length same)) (ends (us ++ rest)) in
    let short : length (us ++ rest) ≤ d = omega (arith, ap length same, length-append ts (middle ++ (us ++ rest)), length-append middle (us ++ rest)) in
    rw same (rw left (rw (at rest) (rw (second d rest short (atom_of_tempo rest e)) refl)))

until_at : (ts : List TokenForm) → behind_keyword keywords.Within ts ≡ None → joining_at (keyword keywords.Until ∷ ts) ≡ Ok (Some (joinings.Until None), ts)
unfolding joining_at
until_at ts e = rw (bound_none ts e) refl

until_within_at : (s : Bool) (d : List ℕ) (ts : List TokenForm) → joining_at (keyword keywords.Until ∷ keyword keywords.Within ∷ number s d ∷ ts) ≡ Ok (Some (joinings.Until (Some (bound_value s d))), ts)
unfolding joining_at bound_at
until_within_at s d ts = refl

unless_at : (ts : List TokenForm) → behind_keyword keywords.Within ts ≡ None → joining_at (keyword keywords.Unless ∷ ts) ≡ Ok (Some (joinings.Unless None), ts)
unfolding joining_at
unless_at ts e = rw (bound_none ts e) refl

unless_within_at : (s : Bool) (d : List ℕ) (ts : List TokenForm) → joining_at (keyword keywords.Unless ∷ keyword keywords.Within ∷ number s d ∷ ts) ≡ Ok (Some (joinings.Unless (Some (bound_value s d))), ts)
unfolding joining_at bound_at
unless_within_at s d ts = refl

release_at : (ts : List TokenForm) → behind_keyword keywords.Within ts ≡ None → joining_at (keyword keywords.Release ∷ ts) ≡ Ok (Some (joinings.Release None), ts)
unfolding joining_at
release_at ts e = rw (bound_none ts e) refl

release_within_at : (s : Bool) (d : List ℕ) (ts : List TokenForm) → joining_at (keyword keywords.Release ∷ keyword keywords.Within ∷ number s d ∷ ts) ≡ Ok (Some (joinings.Release (Some (bound_value s d))), ts)
unfolding joining_at bound_at
release_within_at s d ts = refl

-- ---- chains

chain_goes_on : (k : Keyword) (make : RawTree → RawTree → RawTree) (whole operand : Reads) (ts us : List TokenForm) (f g : RawTree) (rest : List TokenForm)
    → ((x : List TokenForm) → behind_keyword k (keyword k ∷ x) ≡ Some x) → Chains k make whole operand ts f (keyword k ∷ (us ++ rest)) → operand (us ++ rest) ≡ Ok (g, rest) → Chains k make whole operand (ts ++ keyword k ∷ us) (make f g) rest
chain_goes_on k make whole operand ts us f g rest is r read = (
  r.0 - 1,
  omega (arith, length-append us rest, r.1),
  ap whole (append_assoc ts (keyword k ∷ us) rest) ∙ r.2 ∙ chain_more (behind_keyword k) make operand r.0 f (keyword k ∷ (us ++ rest)) (us ++ rest) (omega (arith, r.1)) (is (us ++ rest)) ∙ rw read refl,
)

chain_ends : (k : Keyword) (make : RawTree → RawTree → RawTree) (whole operand : Reads) (ts : List TokenForm) (f : RawTree) (rest : List TokenForm) → behind_keyword k rest ≡ None → Chains k make whole operand ts f rest → whole (ts ++ rest) ≡ Ok (f, rest)
chain_ends k make whole operand ts f rest e r = r.2 ∙ chain_done (behind_keyword k) make operand r.0 f rest e

tempo_is_read : (ts : List TokenForm) (f : RawTree) → IsRead tempo_level ts f → IsRead and_level ts f
unfolding and_with
tempo_is_read ts f read d rest h e = (length rest, omega arith, rw (read d rest h e) refl)

conjunction_is_read : (ts us : List TokenForm) (f g : RawTree) → IsRead and_level ts f → IsRead tempo_level us g → IsRead and_level (ts ++ keyword keywords.And ∷ us) (conj f g)
conjunction_is_read ts us f g first second d rest h e =
    let same : (ts ++ keyword keywords.And ∷ us) ++ rest ≡ ts ++ keyword keywords.And ∷ (us ++ rest) = append_assoc ts (keyword keywords.And ∷ us) rest in
    let left = first d (keyword keywords.And ∷ (us ++ rest)) (omega (arith, ap length same)) refl in
    let short : length (us ++ rest) ≤ d = omega (arith, ap length same, length-append ts (keyword keywords.And ∷ (us ++ rest))) in
    chain_goes_on keywords.And conj (and_with (prefix_at d)) (tempo_with (prefix_at d)) ts us f g rest (λ x. refl) left (second d rest short e)

conjunct_is_read : (ts : List TokenForm) (f : RawTree) → IsRead and_level ts f → IsRead or_level ts f
unfolding or_with
conjunct_is_read ts f read d rest h e =
    let whole = chain_ends keywords.And conj (and_with (prefix_at d)) (tempo_with (prefix_at d)) ts f rest (and_ended rest e) (read d rest h (tempo_of_and rest e)) in
    (length rest, omega arith, rw whole refl)

disjunction_is_read : (ts us : List TokenForm) (f g : RawTree) → IsRead or_level ts f → IsRead and_level us g → IsRead or_level (ts ++ keyword keywords.Or ∷ us) (disj f g)
disjunction_is_read ts us f g first second d rest h e =
    let same : (ts ++ keyword keywords.Or ∷ us) ++ rest ≡ ts ++ keyword keywords.Or ∷ (us ++ rest) = append_assoc ts (keyword keywords.Or ∷ us) rest in
    let left = first d (keyword keywords.Or ∷ (us ++ rest)) (omega (arith, ap length same)) refl in
    let short : length (us ++ rest) ≤ d = omega (arith, ap length same, length-append ts (keyword keywords.Or ∷ (us ++ rest))) in
    let right = chain_ends keywords.And conj (and_with (prefix_at d)) (tempo_with (prefix_at d)) us g rest (and_ended rest e) (second d rest short (tempo_of_and rest e)) in
    chain_goes_on keywords.Or disj (or_with (prefix_at d)) (and_with (prefix_at d)) ts us f g rest (λ x. refl) left right

-- ---- the outer levels

implies_stops : (prefix : Reads) (n : ℕ) (ts : List TokenForm) (f : RawTree) (rest : List TokenForm) → behind_keyword keywords.Implies rest ≡ None → or_with prefix ts ≡ Ok (f, rest) → implies_from prefix n ts ≡ Ok (f, rest)
unfolding implies_from
implies_stops prefix zero ts f rest ends whole = whole
implies_stops prefix (suc n) ts f rest ends whole = rw whole (rw ends refl)

disjunct_is_read : (ts : List TokenForm) (f : RawTree) → IsRead or_level ts f → IsRead implies_level ts f
disjunct_is_read ts f read d rest h e n enough =
    let whole = chain_ends keywords.Or disj (or_with (prefix_at d)) (and_with (prefix_at d)) ts f rest (or_ended rest (or_of_implies rest e)) (read d rest h (and_of_or rest (or_of_implies rest e))) in
    implies_stops (prefix_at d) n (ts ++ rest) f rest (implies_ended rest e) whole

implication_is_read : (ts us : List TokenForm) (f g : RawTree) → IsRead or_level ts f → IsRead implies_level us g → IsRead implies_level (ts ++ keyword keywords.Implies ∷ us) (implies f g)
unfolding implies_from
implication_is_read ts us f g first second d rest h e zero enough =
    let never : ⊥ = omega (arith, length-append (ts ++ keyword keywords.Implies ∷ us) rest, length-append ts (keyword keywords.Implies ∷ us)) in absurd never
implication_is_read ts us f g first second d rest h e (suc n) enough =
    let same : (ts ++ keyword keywords.Implies ∷ us) ++ rest ≡ ts ++ keyword keywords.Implies ∷ (us ++ rest) = append_assoc ts (keyword keywords.Implies ∷ us) rest in
    let left = chain_ends keywords.Or disj (or_with (prefix_at d)) (and_with (prefix_at d)) ts f (keyword keywords.Implies ∷ (us ++ rest)) refl (first d (keyword keywords.Implies ∷ (us ++ rest)) (omega (arith, ap length same)) refl) in
    let short : length (us ++ rest) ≤ d = omega (arith, ap length same, length-append ts (keyword keywords.Implies ∷ (us ++ rest))) in
    let fewer : length (us ++ rest) ≤ n = omega (arith, ap length same, length-append ts (keyword keywords.Implies ∷ (us ++ rest))) in
    rw same (rw left (rw (second d rest short e n fewer) refl))

-- two operands with an operator between them, or one without
right_is_read : (k : Keyword) (make : RawTree → RawTree → RawTree) (operand : Reads) (ts us : List TokenForm) (f g : RawTree) (rest : List TokenForm) → ((x : List TokenForm) → behind_keyword k (keyword k ∷ x) ≡ Some x)
    → operand (ts ++ keyword k ∷ (us ++ rest)) ≡ Ok (f, keyword k ∷ (us ++ rest)) → operand (us ++ rest) ≡ Ok (g, rest) → and_then (operand ((ts ++ keyword k ∷ us) ++ rest)) (λ h more. with_right (make h) operand h more (behind_keyword k more)) ≡ Ok (make f g, rest)
right_is_read k make operand ts us f g rest is first second = rw append_assoc (rw first (rw (is (us ++ rest)) (rw second refl)))

alone_is_read : (k : Keyword) (make : RawTree → RawTree → RawTree) (operand : Reads) (ts : List TokenForm) (f : RawTree) (rest : List TokenForm) → behind_keyword k rest ≡ None
    → operand (ts ++ rest) ≡ Ok (f, rest) → and_then (operand (ts ++ rest)) (λ h more. with_right (make h) operand h more (behind_keyword k more)) ≡ Ok (f, rest)
alone_is_read k make operand ts f rest ends first = rw first (rw ends refl)

side_is_read : (ts : List TokenForm) (f : RawTree) → IsRead implies_level ts f → IsRead iff_level ts f
unfolding iff_with implies_with
side_is_read ts f read d rest h e = alone_is_read keywords.Iff iff (implies_with (prefix_at d)) ts f rest (iff_ended rest e) (read d rest h (implies_of_iff rest e) (length (ts ++ rest)) (omega arith))

equivalence_is_read : (ts us : List TokenForm) (f g : RawTree) → IsRead implies_level ts f → IsRead implies_level us g → IsRead iff_level (ts ++ keyword keywords.Iff ∷ us) (iff f g)
unfolding iff_with implies_with
equivalence_is_read ts us f g first second d rest h e =
    let same : (ts ++ keyword keywords.Iff ∷ us) ++ rest ≡ ts ++ keyword keywords.Iff ∷ (us ++ rest) = append_assoc ts (keyword keywords.Iff ∷ us) rest in
    let left = first d (keyword keywords.Iff ∷ (us ++ rest)) (omega (arith, ap length same)) refl (length (ts ++ keyword keywords.Iff ∷ (us ++ rest))) (omega arith) in
    let short : length (us ++ rest) ≤ d = omega (arith, ap length same, length-append ts (keyword keywords.Iff ∷ (us ++ rest))) in
    right_is_read keywords.Iff iff (implies_with (prefix_at d)) ts us f g rest (λ x. refl) left (second d rest short (implies_of_iff rest e) (length (us ++ rest)) (omega arith))

whole_is_read : (ts : List TokenForm) (f : RawTree) → IsRead iff_level ts f → IsRead whole_level ts f
unfolding whole_with
whole_is_read ts f read d rest h e = alone_is_read keywords.Entails entails (iff_with (prefix_at d)) ts f rest (whole_ended rest e) (read d rest h (iff_of_whole rest e))

entailment_is_read : (ts us : List TokenForm) (f g : RawTree) → IsRead iff_level ts f → IsRead iff_level us g → IsRead whole_level (ts ++ keyword keywords.Entails ∷ us) (entails f g)
unfolding whole_with
entailment_is_read ts us f g first second d rest h e =
    let same : (ts ++ keyword keywords.Entails ∷ us) ++ rest ≡ ts ++ keyword keywords.Entails ∷ (us ++ rest) = append_assoc ts (keyword keywords.Entails ∷ us) rest in
    let left = first d (keyword keywords.Entails ∷ (us ++ rest)) (omega (arith, ap length same)) refl in
    let short : length (us ++ rest) ≤ d = omega (arith, ap length same, length-append ts (keyword keywords.Entails ∷ (us ++ rest))) in
    right_is_read keywords.Entails entails (iff_with (prefix_at d)) ts us f g rest (λ x. refl) left (second d rest short (iff_of_whole rest e))

pub spelled_read : {l : Level} {ts : List TokenForm} {f : RawTree} → SpellsFormula l ts f → IsRead l ts f
spelled_read a_truth = truth_read
spelled_read a_falsity = falsity_read
spelled_read (in_parentheses s) = parentheses_read _ _ (spelled_read s)
spelled_read (a_flag x) = flag_is_read x
spelled_read (a_comparison x m r is s) = comparison_is_read x m r is s
spelled_read (a_flag_of f x) = flag_of_is_read f x
spelled_read (a_comparison_of f x m r is s) = comparison_of_is_read f x m r is s
spelled_read (a_choice_of f x s) = choice_of_is_read f x s
spelled_read (a_universal x k s) = universal_is_read x k _ _ (spelled_read s)
spelled_read (an_existential x k s) = existential_is_read x k _ _ (spelled_read s)
spelled_read (a_choice x s) = choice_is_read x s
spelled_read (a_primary s) = spelled_read s
spelled_read (a_negation {ts} {f} s) = opening_is_read (keyword keywords.Not ∷ []) openings.Not ts f (omega arith) (λ rest. not_at (ts ++ rest)) (spelled_read s)
spelled_read (a_next {ts} {f} s) = opening_is_read (keyword keywords.Next ∷ []) openings.Next ts f (omega arith) (λ rest. next_at (ts ++ rest)) (spelled_read s)
spelled_read (an_eventually {ts} {f} s) = opening_is_read (keyword keywords.Eventually ∷ []) (openings.Eventually None) ts f (omega arith) (λ rest. eventually_at (ts ++ rest) (no_bound s rest)) (spelled_read s)
spelled_read (an_always {ts} {f} s) = opening_is_read (keyword keywords.Always ∷ []) (openings.Always None) ts f (omega arith) (λ rest. always_at (ts ++ rest) (no_bound s rest)) (spelled_read s)
spelled_read (an_eventually_within b d {ts} {f} s) = opening_is_read (keyword keywords.Eventually ∷ keyword keywords.Within ∷ number b d ∷ []) (openings.Eventually (Some (bound_value b d))) ts f (omega arith) (λ rest. eventually_within_at b d (ts ++ rest)) (spelled_read s)
spelled_read (an_always_within b d {ts} {f} s) = opening_is_read (keyword keywords.Always ∷ keyword keywords.Within ∷ number b d ∷ []) (openings.Always (Some (bound_value b d))) ts f (omega arith) (λ rest. always_within_at b d (ts ++ rest)) (spelled_read s)
spelled_read (a_prefix s) = prefix_is_read _ _ (spelled_read s)
spelled_read (an_until {ts} {us} {f} {g} s t) = joining_is_read (keyword keywords.Until ∷ []) (joinings.Until None) ts us f g (λ rest. refl) (λ rest. until_at (us ++ rest) (no_bound t rest)) (spelled_read s) (spelled_read t)
spelled_read (an_until_within b d {ts} {us} {f} {g} s t) = joining_is_read (keyword keywords.Until ∷ keyword keywords.Within ∷ number b d ∷ []) (joinings.Until (Some (bound_value b d))) ts us f g (λ rest. refl) (λ rest. until_within_at b d (us ++ rest)) (spelled_read s) (spelled_read t)
spelled_read (an_unless {ts} {us} {f} {g} s t) = joining_is_read (keyword keywords.Unless ∷ []) (joinings.Unless None) ts us f g (λ rest. refl) (λ rest. unless_at (us ++ rest) (no_bound t rest)) (spelled_read s) (spelled_read t)
spelled_read (an_unless_within b d {ts} {us} {f} {g} s t) = joining_is_read (keyword keywords.Unless ∷ keyword keywords.Within ∷ number b d ∷ []) (joinings.Unless (Some (bound_value b d))) ts us f g (λ rest. refl) (λ rest. unless_within_at b d (us ++ rest)) (spelled_read s) (spelled_read t)
spelled_read (a_release {ts} {us} {f} {g} s t) = joining_is_read (keyword keywords.Release ∷ []) (joinings.Release None) ts us f g (λ rest. refl) (λ rest. release_at (us ++ rest) (no_bound t rest)) (spelled_read s) (spelled_read t)
spelled_read (a_release_within b d {ts} {us} {f} {g} s t) = joining_is_read (keyword keywords.Release ∷ keyword keywords.Within ∷ number b d ∷ []) (joinings.Release (Some (bound_value b d))) ts us f g (λ rest. refl) (λ rest. release_within_at b d (us ++ rest)) (spelled_read s) (spelled_read t)
spelled_read (a_tempo s) = tempo_is_read _ _ (spelled_read s)
spelled_read (a_conjunction s t) = conjunction_is_read _ _ _ _ (spelled_read s) (spelled_read t)
spelled_read (a_conjunct s) = conjunct_is_read _ _ (spelled_read s)
spelled_read (a_disjunction s t) = disjunction_is_read _ _ _ _ (spelled_read s) (spelled_read t)
spelled_read (a_disjunct s) = disjunct_is_read _ _ (spelled_read s)
spelled_read (an_implication s t) = implication_is_read _ _ _ _ (spelled_read s) (spelled_read t)
spelled_read (a_side s) = side_is_read _ _ (spelled_read s)
spelled_read (an_equivalence s t) = equivalence_is_read _ _ _ _ (spelled_read s) (spelled_read t)
spelled_read (a_whole s) = whole_is_read _ _ (spelled_read s)
spelled_read (an_entailment s t) = entailment_is_read _ _ _ _ (spelled_read s) (spelled_read t)
