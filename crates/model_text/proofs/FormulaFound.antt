-- What is read is spelled so, by the levels of the grammar.
use Rattle.std.proofs.Common.{◌≡◌, ℕ, zero, suc, Bool, List, [], ◌∷◌, ◌++◌, length, Option, Some, None, Ok, refl, sym, ap, ap₂, subst, ◌∙◌, append_assoc, inl, inr, ◌<◌, ◌≤◌, length-append, arith}
use Rattle.std.proofs.lemmas.Option.{some_pair_parts}
use Rattle.std.proofs.lemmas.List.{append-nil}
use Rattle.state_space.specs.declared.keyword.Keyword.{Keyword}
use Rattle.state_space.specs.declared.keyword.Keyword.TheVariants as keywords
use Rattle.model_tokens.specs.declared.token.Sign.{Sign}
use Rattle.model_tokens.specs.declared.token.Sign.TheVariants.{Colon, Comma, OpenParenthesis, CloseParenthesis, OpenBrace, CloseBrace}
use Rattle.model_text.specs.declared.formula_reader.Opening.{Opening}
use Rattle.model_text.specs.declared.formula_reader.Opening.TheVariants as openings
use Rattle.model_text.specs.declared.formula_reader.Joining.{Joining}
use Rattle.model_text.specs.declared.formula_reader.Joining.TheVariants as joinings
use Rattle.model_tokens.specs.declared.token.Further.{Further}
use Rattle.model_tokens.specs.declared.token.Further.TheVariants as furthers
use Rattle.temporal_logic.specs.Ltl.{Relation}
use Rattle.model_tokens.specs.Tokens.{TokenForm, keyword, mark, name, number, further}
use Rattle.model_text.specs.RawTrees.{WrittenValue, a_word, a_number, a_truth, an_attribute, RawTree, truth, falsity, eventually_within, always_within, conj, disj, implies, iff, entails, until_within, unless_within, release_within, for_all, for_some}
use Rattle.model_tokens.specs.Values.{cut_name, bound_value}
use Rattle.model_text.specs.Leaves.{relation_of, value_of}
use Rattle.model_text.specs.FormulaGrammar.{Level, whole_level, iff_level, implies_level, or_level, and_level, tempo_level, prefix_level, primary_level, argument, SpellsValues, one_value, more_values, SpellsRight, a_value, an_attribute_value, SpellsFormula, a_truth, a_falsity, in_parentheses, a_flag, a_comparison, a_choice, a_flag_of, a_comparison_of, a_choice_of, a_universal, an_existential, a_primary, a_negation, a_next, an_eventually, an_always, an_eventually_within, an_always_within, a_prefix, an_until, an_unless, a_release, an_until_within, an_unless_within, a_release_within, a_tempo, a_conjunction, a_conjunct, a_disjunction, a_disjunct, an_implication, a_side, an_equivalence, a_whole, an_entailment}
use Rattle.model_text.specs.Reading.{Reading, and_then, behind_keyword, behind_mark, behind_further, mark_at, further_at, name_at}
use Rattle.model_text.specs.FormulaReading.{Reads, if_behind, read_as, steps_at, bound_at, value_or_fault, value_at, with_rest, comparison_at, more_values_at, values_at, choice_at, argument_at, right_with, right_behind, right_at, bare_with, compares_with, among_with, atom_by, atom_at, closed, primary_with, head_at, quantified_with, simple_with, opening_at, opened, prefix_behind, prefix_with, joining_at, joined, tempo_behind, tempo_with, chain, and_with, or_with, with_right, implies_from, implies_with, iff_with, whole_with, prefix_at}
use Rattle.model_text.proofs.FormulaTokens.{keyword_is, mark_is, further_is, mark_at_is, further_at_is, ok_parts, and_then_ok, read_as_ok, if_behind_cases}

-- ---- leaves

-- the tokens of a bound
abbrev IsBound : Option ℕ → List TokenForm → List TokenForm → Type 0
IsBound None ts rest = ts ≡ rest
IsBound (Some d) ts rest = (negative : Bool) × (digits : List ℕ) × (ts ≡ keyword keywords.Within ∷ number negative digits ∷ rest) × (bound_value negative digits ≡ d)

steps_found : (ts : List TokenForm) (d : ℕ) (rest : List TokenForm) → steps_at ts ≡ Ok (d, rest) → (negative : Bool) × (digits : List ℕ) × (ts ≡ number negative digits ∷ rest) × (bound_value negative digits ≡ d)
steps_found [] d rest e = absurd cc
steps_found (number negative digits ∷ ts) d rest e = let p = ok_parts (bound_value negative digits) d ts rest e in (negative, digits, ap (λ (us : List TokenForm). number negative digits ∷ us) p.1, p.0)
steps_found (t ∷ ts) d rest e = absurd cc

bound_found : (ts : List TokenForm) (o : Option ℕ) (rest : List TokenForm) → bound_at ts ≡ Ok (o, rest) → IsBound o ts rest
unfolding bound_at
bound_found ts o rest e =
    elim (if_behind_cases (behind_keyword keywords.Within ts) (λ more. read_as (λ d. Some d) (steps_at more)) (Ok (None, ts)) (Ok (o, rest)) e) [
      | inl h ↦ within_found ts h.0 o rest h.1 h.2
      | inr h ↦ let p = ok_parts None o ts rest h.1 in subst (λ (b : Option ℕ). IsBound b ts rest) p.0 p.1
    ]
  where
    within_found : (ts more : List TokenForm) (o : Option ℕ) (rest : List TokenForm) → behind_keyword keywords.Within ts ≡ Some more → read_as (λ d. Some d) (steps_at more) ≡ Ok (o, rest) → IsBound o ts rest
    within_found ts more o rest is e =
        let x = read_as_ok (λ d. Some d) (steps_at more) o rest e in
        let s = steps_found more x.0 rest x.1 in
        subst (λ (b : Option ℕ). IsBound b ts rest) x.2 (s.0, s.1, keyword_is keywords.Within ts more is ∙ ap (λ (us : List TokenForm). keyword keywords.Within ∷ us) s.2, s.3)

value_or_ok : (o : Option WrittenValue) (t : TokenForm) (ts : List TokenForm) (v : WrittenValue) (rest : List TokenForm) → value_or_fault o t ts ≡ Ok (v, rest) → (o ≡ Some v) × (ts ≡ rest)
value_or_ok None t ts v rest e = absurd cc
value_or_ok (Some w) t ts v rest e = let p = ok_parts w v ts rest e in (ap (λ (x : WrittenValue). Some x) p.0, p.1)

pub value_found : (ts : List TokenForm) (v : WrittenValue) (rest : List TokenForm) → value_at ts ≡ Ok (v, rest) → (t : TokenForm) × (value_of t ≡ Some v) × (ts ≡ t ∷ rest)
unfolding value_at
value_found [] v rest e = absurd cc
value_found (t ∷ ts) v rest e = let p = value_or_ok (value_of t) t ts v rest e in (t, p.0, ap (λ (us : List TokenForm). t ∷ us) p.1)

-- more values behind a value
abbrev GoesOn : List TokenForm → List WrittenValue → Type 0
GoesOn us more = (t : TokenForm) (v : WrittenValue) → value_of t ≡ Some v → SpellsValues (t ∷ us) (v ∷ more)

abbrev MoreFound : List WrittenValue → List TokenForm → List WrittenValue → List TokenForm → Type 0
MoreFound front ts vs rest = (us : List TokenForm) × (more : List WrittenValue) × (vs ≡ front ++ more) × (ts ≡ us ++ rest) × GoesOn us more

none_found : (front : List WrittenValue) (ts : List TokenForm) (vs : List WrittenValue) (rest : List TokenForm) → ◌≡◌ {A = Reading (List WrittenValue)} (Ok (front, ts)) (Ok (vs, rest)) → MoreFound front ts vs rest
none_found front ts vs rest e = let p = ok_parts front vs ts rest e in ([], [], sym p.0 ∙ sym (append-nil front), p.1, λ t v is. one_value t v is)

more_found : (n : ℕ) (front : List WrittenValue) (ts : List TokenForm) (vs : List WrittenValue) (rest : List TokenForm) → more_values_at n front ts ≡ Ok (vs, rest) → MoreFound front ts vs rest
unfolding more_values_at
more_found zero front ts vs rest e = none_found front ts vs rest e
more_found (suc n) front ts vs rest e =
    elim (if_behind_cases (behind_mark Comma ts) (λ inner. and_then (value_at inner) (λ v more. more_values_at n (front ++ v ∷ []) more)) (Ok (front, ts)) (Ok (vs, rest)) e) [
      | inl h ↦
          let x = and_then_ok (value_at h.0) (λ v more. more_values_at n (front ++ v ∷ []) more) vs rest h.2 in
          let here = value_found h.0 x.0 x.1 x.2 in
          let behind = more_found n (front ++ x.0 ∷ []) x.1 vs rest x.3 in
          let tokens : ts ≡ mark Comma ∷ here.0 ∷ behind.0 ++ rest = mark_is Comma ts h.0 h.1 ∙ ap (λ (us : List TokenForm). mark Comma ∷ us) (here.2 ∙ ap (λ (us : List TokenForm). here.0 ∷ us) behind.3) in
          (mark Comma ∷ here.0 ∷ behind.0, x.0 ∷ behind.1, behind.2 ∙ append_assoc front (x.0 ∷ []) behind.1, tokens, λ t v is. more_values t v (here.0 ∷ behind.0) (x.0 ∷ behind.1) is (behind.4 here.0 x.0 here.1))
      | inr h ↦ none_found front ts vs rest h.1
    ]

values_found : (ts : List TokenForm) (vs : List WrittenValue) (rest : List TokenForm) → values_at ts ≡ Ok (vs, rest) → (us : List TokenForm) × SpellsValues us vs × (ts ≡ us ++ rest)
unfolding values_at
values_found ts vs rest e =
    let x = and_then_ok (value_at ts) (λ v more. more_values_at (length more) (v ∷ []) more) vs rest e in
    let here = value_found ts x.0 x.1 x.2 in
    let behind = more_found (length x.1) (x.0 ∷ []) x.1 vs rest x.3 in
    (here.0 ∷ behind.0, subst (λ (ws : List WrittenValue). SpellsValues (here.0 ∷ behind.0) ws) (sym behind.2) (behind.4 here.0 x.0 here.1), here.2 ∙ ap (λ (us : List TokenForm). here.0 ∷ us) behind.3)

choice_found : (ts : List TokenForm) (vs : List WrittenValue) (rest : List TokenForm) → choice_at ts ≡ Ok (vs, rest) → (us : List TokenForm) × SpellsValues us vs × (ts ≡ mark OpenBrace ∷ us ++ mark CloseBrace ∷ rest)
unfolding choice_at
choice_found ts vs rest e =
    let open_brace = and_then_ok (mark_at OpenBrace ts) (λ _ inner. and_then (values_at inner) (λ ws more. read_as (λ _. ws) (mark_at CloseBrace more))) vs rest e in
    let inner = and_then_ok (values_at open_brace.1) (λ ws more. read_as (λ _. ws) (mark_at CloseBrace more)) vs rest open_brace.3 in
    let close_brace = read_as_ok (λ _. inner.0) (mark_at CloseBrace inner.1) vs rest inner.3 in
    let part = values_found open_brace.1 inner.0 inner.1 inner.2 in
    let tokens : ts ≡ mark OpenBrace ∷ part.0 ++ mark CloseBrace ∷ rest = mark_at_is OpenBrace ts open_brace.0 open_brace.1 open_brace.2 ∙ ap (λ (us : List TokenForm). mark OpenBrace ∷ us) (part.2 ∙ ap (λ (us : List TokenForm). part.0 ++ us) (mark_at_is CloseBrace inner.1 close_brace.0 rest close_brace.1)) in
    (part.0, subst (λ (ws : List WrittenValue). SpellsValues part.0 ws) close_brace.2 part.1, tokens)

name_found : (ts : List TokenForm) (x : List ℕ) (rest : List TokenForm) → name_at ts ≡ Ok (x, rest) → (bytes : List ℕ) × (ts ≡ name bytes ∷ rest) × (cut_name bytes ≡ x)
unfolding name_at
name_found [] x rest e = absurd cc
name_found (name bytes ∷ ts) x rest e = let p = ok_parts (cut_name bytes) x ts rest e in (bytes, ap (λ (us : List TokenForm). name bytes ∷ us) p.1, p.0)
name_found (t ∷ ts) x rest e = absurd cc

comparison_found : (ts : List TokenForm) (r : Relation) (rest : List TokenForm) → comparison_at ts ≡ Some (r, rest) → (m : Sign) × (relation_of m ≡ Some r) × (ts ≡ mark m ∷ rest)
comparison_found [] r rest e = absurd cc
comparison_found (mark m ∷ ts) r rest e = let p = with_rest_is (relation_of m) e in (m, p.0, ap (λ (us : List TokenForm). mark m ∷ us) p.1)
  where
    with_rest_is : (o : Option Relation) → with_rest o ts ≡ Some (r, rest) → (o ≡ Some r) × (ts ≡ rest)
    with_rest_is None e = absurd cc
    with_rest_is (Some s) e = let p = some_pair_parts s r ts rest e in (ap (λ (q : Relation). Some q) p.0, p.1)
comparison_found (t ∷ ts) r rest e = absurd cc

-- ---- levels

-- a front of the tokens spells the formula
abbrev pub Begins : Level → List TokenForm → RawTree → List TokenForm → Type 0
Begins l ts f rest = (front : List TokenForm) × SpellsFormula l front f × (ts ≡ front ++ rest)

abbrev pub Finds : Level → Reads → Type 0
Finds l read = (ts : List TokenForm) (f : RawTree) (rest : List TokenForm) → read ts ≡ Ok (f, rest) → Begins l ts f rest

same_begins : (l : Level) (ts : List TokenForm) (f g : RawTree) (rest more : List TokenForm) → ◌≡◌ {A = Reading RawTree} (Ok (f, rest)) (Ok (g, more)) → Begins l ts f rest → Begins l ts g more
same_begins l ts f g rest more e h =
    let p = ok_parts f g rest more e in
    subst (λ (r : List TokenForm). Begins l ts g r) p.1 (subst (λ (x : RawTree). Begins l ts x rest) p.0 h)

same_formula : (l : Level) (ts : List TokenForm) (f g : RawTree) (rest : List TokenForm) → f ≡ g → Begins l ts f rest → Begins l ts g rest
same_formula l ts f g rest e h = subst (λ (x : RawTree). Begins l ts x rest) e h

-- the tokens of a name in brackets, where there is one
abbrev IsArgument : Option (List ℕ) → List TokenForm → List TokenForm → Type 0
IsArgument None ts rest = ts ≡ rest
IsArgument (Some x) ts rest = (bytes : List ℕ) × (cut_name bytes ≡ x) × (ts ≡ argument bytes rest)

argument_found : (ts : List TokenForm) (a : Option (List ℕ)) (rest : List TokenForm) → argument_at ts ≡ Ok (a, rest) → IsArgument a ts rest
unfolding argument_at
argument_found ts a rest e =
    elim (if_behind_cases (behind_further furthers.OpenArgument ts) (λ inner. and_then (name_at inner) (λ x more. read_as (λ _. Some x) (mark_at CloseParenthesis more))) (Ok (None, ts)) (Ok (a, rest)) e) [
      | inl h ↦ some_found h.0 (further_is furthers.OpenArgument ts h.0 h.1) h.2
      | inr h ↦ let p = ok_parts None a ts rest h.1 in subst (λ (b : Option (List ℕ)). IsArgument b ts rest) p.0 p.1
    ]
  where
    some_found : (inner : List TokenForm) → ts ≡ further furthers.OpenArgument ∷ inner → and_then (name_at inner) (λ x more. read_as (λ _. Some x) (mark_at CloseParenthesis more)) ≡ Ok (a, rest) → IsArgument a ts rest
    some_found inner is e =
        let x = and_then_ok (name_at inner) (λ x more. read_as (λ _. Some x) (mark_at CloseParenthesis more)) a rest e in
        let y = read_as_ok (λ _. Some x.0) (mark_at CloseParenthesis x.1) a rest x.3 in
        let n = name_found inner x.0 x.1 x.2 in
        let tokens : ts ≡ argument n.0 rest = is ∙ ap (λ (us : List TokenForm). further furthers.OpenArgument ∷ us) (n.1 ∙ ap (λ (us : List TokenForm). name n.0 ∷ us) (mark_at_is CloseParenthesis x.1 y.0 rest y.1)) in
        subst (λ (b : Option (List ℕ)). IsArgument b ts rest) y.2 (n.0, n.2, tokens)

-- a front of the tokens spells what stands behind a comparison
abbrev BeginsRight : List TokenForm → WrittenValue → List TokenForm → Type 0
BeginsRight ts v rest = (front : List TokenForm) × SpellsRight front v × (ts ≡ front ++ rest)

word_is : (t : TokenForm) (f : List ℕ) → value_of t ≡ Some (a_word f) → (bytes : List ℕ) × (t ≡ name bytes) × (cut_name bytes ≡ f)
word_is (name bytes) f e = let is : cut_name bytes ≡ f = cc in (bytes, refl, is)
word_is (number s d) f e = absurd cc
word_is (keyword keywords.True) f e = absurd cc
word_is (keyword keywords.False) f e = absurd cc
word_is t f e = absurd cc

right_value_found : (ts : List TokenForm) (v : WrittenValue) (rest : List TokenForm) → right_at ts ≡ Ok (v, rest) → BeginsRight ts v rest
unfolding right_at
right_value_found ts v rest e =
    let x = and_then_ok (value_at ts) right_behind v rest e in
    let here = value_found ts x.0 x.1 x.2 in
    by_value x.0 here.0 x.1 here.1 here.2 x.3
  where
    same_value : (w : WrittenValue) (t : TokenForm) (more : List TokenForm) → value_of t ≡ Some w → ts ≡ t ∷ more → ◌≡◌ {A = Reading WrittenValue} (Ok (w, more)) (Ok (v, rest)) → BeginsRight ts v rest
    same_value w t more is at e = let p = ok_parts w v more rest e in subst (λ (u : WrittenValue). BeginsRight ts u rest) p.0 (t ∷ [], a_value t w is, at ∙ ap (λ (us : List TokenForm). t ∷ us) p.1)

    by_argument : (f : List ℕ) (t : TokenForm) (more : List TokenForm) → value_of t ≡ Some (a_word f) → ts ≡ t ∷ more → (a : Option (List ℕ)) → IsArgument a more rest → BeginsRight ts (right_with f a) rest
    by_argument f t more is at None same = (t ∷ [], a_value t (a_word f) is, at ∙ ap (λ (us : List TokenForm). t ∷ us) same)
    by_argument f t more is at (Some x) found =
        let w = word_is t f is in
        let tokens : ts ≡ name w.0 ∷ argument found.0 rest = at ∙ ap (λ (u : TokenForm). u ∷ more) w.1 ∙ ap (λ (us : List TokenForm). name w.0 ∷ us) found.2 in
        subst (λ (y : List ℕ). BeginsRight ts (an_attribute f y) rest) found.1 (subst (λ (g : List ℕ). BeginsRight ts (an_attribute g (cut_name found.0)) rest) w.2 (name w.0 ∷ argument found.0 [], an_attribute_value w.0 found.0, tokens))

    by_value : (w : WrittenValue) (t : TokenForm) (more : List TokenForm) → value_of t ≡ Some w → ts ≡ t ∷ more → right_behind w more ≡ Ok (v, rest) → BeginsRight ts v rest
    by_value (a_word f) t more is at e =
        let x = read_as_ok (right_with f) (argument_at more) v rest e in
        subst (λ (u : WrittenValue). BeginsRight ts u rest) x.2 (by_argument f t more is at x.0 (argument_found more x.0 rest x.1))
    by_value (a_number n) t more is at e = same_value (a_number n) t more is at e
    by_value (a_truth b) t more is at e = same_value (a_truth b) t more is at e
    by_value (an_attribute f x) t more is at e = same_value (an_attribute f x) t more is at e

-- what atoms begin with these tokens
record MakesAtoms (front : List TokenForm) (x : List ℕ) (a : Option (List ℕ)) : Type 0 where
  alone : SpellsFormula primary_level front (bare_with x a)
  compared : (m : Sign) (r : Relation) (ts : List TokenForm) (v : WrittenValue) → relation_of m ≡ Some r → SpellsRight ts v → SpellsFormula primary_level (front ++ mark m ∷ ts) (compares_with x a r v)
  chosen : (ts : List TokenForm) (vs : List WrittenValue) → SpellsValues ts vs → SpellsFormula primary_level (front ++ (keyword keywords.In ∷ mark OpenBrace ∷ ts ++ mark CloseBrace ∷ [])) (among_with x a vs)

plain_makes : (bytes x : List ℕ) → cut_name bytes ≡ x → MakesAtoms (name bytes ∷ []) x None
plain_makes bytes x cut =
    subst (λ (y : List ℕ). MakesAtoms (name bytes ∷ []) y None) cut
    (record { alone = a_flag bytes; compared = λ m r ts v is s. a_comparison bytes m r is s; chosen = λ ts vs s. a_choice bytes s })

of_makes : (bytes other f x : List ℕ) → cut_name bytes ≡ f → cut_name other ≡ x → MakesAtoms (name bytes ∷ argument other []) f (Some x)
of_makes bytes other f x cut also =
    subst (λ (g : List ℕ). MakesAtoms (name bytes ∷ argument other []) g (Some x)) cut
    (subst (λ (y : List ℕ). MakesAtoms (name bytes ∷ argument other []) (cut_name bytes) (Some y)) also
    (record { alone = a_flag_of bytes other; compared = λ m r ts v is s. a_comparison_of bytes other m r is s; chosen = λ ts vs s. a_choice_of bytes other s }))

atom_by_found : (front : List TokenForm) (x : List ℕ) (a : Option (List ℕ)) → MakesAtoms front x a → (ts : List TokenForm) (o : Option (Relation × List TokenForm)) (f : RawTree) (rest : List TokenForm)
    → comparison_at ts ≡ o → atom_by x a ts o ≡ Ok (f, rest) → Begins primary_level (front ++ ts) f rest
atom_by_found front x a makes ts (Some compared) f rest is e =
    let y = read_as_ok (compares_with x a compared.0) (right_at compared.1) f rest e in
    let sign = comparison_found ts compared.0 compared.1 is in
    let here = right_value_found compared.1 y.0 rest y.1 in
    let tokens : front ++ ts ≡ (front ++ mark sign.0 ∷ here.0) ++ rest =
    ap (λ (us : List TokenForm). front ++ us) (sign.2 ∙ ap (λ (us : List TokenForm). mark sign.0 ∷ us) here.2) ∙ sym (append_assoc front (mark sign.0 ∷ here.0) rest) in
    same_formula primary_level (front ++ ts) (compares_with x a compared.0 y.0) f rest y.2 (front ++ mark sign.0 ∷ here.0, makes.compared sign.0 compared.0 here.0 y.0 sign.1 here.1, tokens)
atom_by_found front x a makes ts None f rest is e =
    elim (if_behind_cases (behind_keyword keywords.In ts) (λ inner. read_as (among_with x a) (choice_at inner)) (Ok (bare_with x a, ts)) (Ok (f, rest)) e) [
      | inl h ↦
          let y = read_as_ok (among_with x a) (choice_at h.0) f rest h.2 in
          let part = choice_found h.0 y.0 rest y.1 in
          let tokens : front ++ ts ≡ (front ++ (keyword keywords.In ∷ mark OpenBrace ∷ part.0 ++ mark CloseBrace ∷ [])) ++ rest =
          ap (λ (us : List TokenForm). front ++ us) (keyword_is keywords.In ts h.0 h.1 ∙ ap (λ (us : List TokenForm). keyword keywords.In ∷ us) (part.2 ∙ ap (λ (us : List TokenForm). mark OpenBrace ∷ us) (sym (append_assoc part.0 (mark CloseBrace ∷ []) rest))))
          ∙ sym (append_assoc front (keyword keywords.In ∷ mark OpenBrace ∷ part.0 ++ mark CloseBrace ∷ []) rest) in
          same_formula primary_level (front ++ ts) (among_with x a y.0) f rest y.2 (front ++ (keyword keywords.In ∷ mark OpenBrace ∷ part.0 ++ mark CloseBrace ∷ []), makes.chosen part.0 y.0 part.1, tokens)
      | inr h ↦ same_begins primary_level (front ++ ts) (bare_with x a) f ts rest h.1 (front, makes.alone, refl)
    ]

atom_found : Finds primary_level atom_at
unfolding atom_at
atom_found ts f rest e =
    let x = and_then_ok (name_at ts) (λ n more. and_then (argument_at more) (λ a us. atom_by n a us (comparison_at us))) f rest e in
    let y = and_then_ok (argument_at x.1) (λ a us. atom_by x.0 a us (comparison_at us)) f rest x.3 in
    let here = name_found ts x.0 x.1 x.2 in
    subst (λ (us : List TokenForm). Begins primary_level us f rest) (sym here.1) (by_argument x.0 here.0 here.2 x.1 y.0 y.1 (argument_found x.1 y.0 y.1 y.2) y.3)
  where
    by_argument : (n bytes : List ℕ) → cut_name bytes ≡ n → (us : List TokenForm) (a : Option (List ℕ)) (more : List TokenForm) → IsArgument a us more → atom_by n a more (comparison_at more) ≡ Ok (f, rest) → Begins primary_level (name bytes ∷ us) f rest
    by_argument n bytes cut us None more same e =
        subst (λ (vs : List TokenForm). Begins primary_level (name bytes ∷ vs) f rest) (sym same) (atom_by_found (name bytes ∷ []) n None (plain_makes bytes n cut) more (comparison_at more) f rest refl e)
    by_argument n bytes cut us (Some x) more found e =
        subst (λ (vs : List TokenForm). Begins primary_level (name bytes ∷ vs) f rest) (sym found.2)
        (atom_by_found (name bytes ∷ argument found.0 []) n (Some x) (of_makes bytes found.0 n x cut found.1) more (comparison_at more) f rest refl e)

-- the tokens of a formula and a parenthesis behind it
closed_parts : (whole : Reads) → Finds whole_level whole → (ts : List TokenForm) (f : RawTree) (rest : List TokenForm) → closed (whole ts) ≡ Ok (f, rest)
    → (us : List TokenForm) × SpellsFormula whole_level us f × (ts ≡ us ++ mark CloseParenthesis ∷ rest)
closed_parts whole finds ts f rest e =
    let inner = and_then_ok (whole ts) (λ g more. read_as (λ _. g) (mark_at CloseParenthesis more)) f rest e in
    let end = read_as_ok (λ _. inner.0) (mark_at CloseParenthesis inner.1) f rest inner.3 in
    let part = finds ts inner.0 inner.1 inner.2 in
    let tokens : ts ≡ part.0 ++ mark CloseParenthesis ∷ rest = part.2 ∙ ap (λ (us : List TokenForm). part.0 ++ us) (mark_at_is CloseParenthesis inner.1 end.0 rest end.1) in
    (part.0, subst (λ (g : RawTree). SpellsFormula whole_level part.0 g) end.2 part.1, tokens)

closed_found : (whole : Reads) → Finds whole_level whole → (ts : List TokenForm) (f : RawTree) (rest : List TokenForm) → closed (whole ts) ≡ Ok (f, rest) → Begins primary_level (mark OpenParenthesis ∷ ts) f rest
closed_found whole finds ts f rest e =
    let part = closed_parts whole finds ts f rest e in
    let tokens : mark OpenParenthesis ∷ ts ≡ (mark OpenParenthesis ∷ part.0 ++ mark CloseParenthesis ∷ []) ++ rest =
    ap (λ (us : List TokenForm). mark OpenParenthesis ∷ us) (part.2 ∙ sym (append_assoc part.0 (mark CloseParenthesis ∷ []) rest)) in
    (mark OpenParenthesis ∷ part.0 ++ mark CloseParenthesis ∷ [], in_parentheses part.1, tokens)

primary_found : (whole : Reads) → Finds whole_level whole → Finds primary_level (primary_with whole)
unfolding primary_with
primary_found whole finds ts f rest e =
    elim (if_behind_cases (behind_keyword keywords.True ts) (λ more. Ok (truth, more)) (if_behind (behind_keyword keywords.False ts) (λ more. Ok (falsity, more)) (if_behind (behind_mark OpenParenthesis ts) (λ more. closed (whole more)) (atom_at ts))) (Ok (f, rest)) e) [
      | inl h ↦ subst (λ (us : List TokenForm). Begins primary_level us f rest) (sym (keyword_is keywords.True ts h.0 h.1)) (same_begins primary_level (keyword keywords.True ∷ h.0) truth f h.0 rest h.2 (keyword keywords.True ∷ [], a_truth, refl))
      | inr h ↦ not_true ts f rest h.1
    ]
  where
    not_true : (ts : List TokenForm) (f : RawTree) (rest : List TokenForm) → (if_behind (behind_keyword keywords.False ts) (λ more. Ok (falsity, more)) (if_behind (behind_mark OpenParenthesis ts) (λ more. closed (whole more)) (atom_at ts))) ≡ Ok (f, rest) → Begins primary_level ts f rest
    not_true ts f rest e =
        elim (if_behind_cases (behind_keyword keywords.False ts) (λ more. Ok (falsity, more)) (if_behind (behind_mark OpenParenthesis ts) (λ more. closed (whole more)) (atom_at ts)) (Ok (f, rest)) e) [
          | inl h ↦ subst (λ (us : List TokenForm). Begins primary_level us f rest) (sym (keyword_is keywords.False ts h.0 h.1)) (same_begins primary_level (keyword keywords.False ∷ h.0) falsity f h.0 rest h.2 (keyword keywords.False ∷ [], a_falsity, refl))
          | inr h ↦
              elim (if_behind_cases (behind_mark OpenParenthesis ts) (λ more. closed (whole more)) (atom_at ts) (Ok (f, rest)) h.1) [
                | inl k ↦ subst (λ (us : List TokenForm). Begins primary_level us f rest) (sym (mark_is OpenParenthesis ts k.0 k.1)) (closed_found whole finds k.0 f rest k.2)
                | inr k ↦ atom_found ts f rest k.1
              ]
        ]

-- ---- quantifiers

-- the tokens between a quantifier and its formula
abbrev IsHead : List ℕ × List ℕ → List TokenForm → List TokenForm → Type 0
IsHead p ts rest = (x e : List ℕ) × (ts ≡ name x ∷ mark Colon ∷ name e ∷ further furthers.OpenArgument ∷ rest) × (p ≡ (cut_name x, cut_name e))

head_found : (ts : List TokenForm) (p : List ℕ × List ℕ) (rest : List TokenForm) → head_at ts ≡ Ok (p, rest) → IsHead p ts rest
unfolding head_at
head_found ts p rest e =
    let x = and_then_ok (name_at ts) (λ n us. and_then (mark_at Colon us) (λ _ vs. and_then (name_at vs) (λ k ws. read_as (λ _. (n, k)) (further_at furthers.OpenArgument ws)))) p rest e in
    let y = and_then_ok (mark_at Colon x.1) (λ _ vs. and_then (name_at vs) (λ k ws. read_as (λ _. (x.0, k)) (further_at furthers.OpenArgument ws))) p rest x.3 in
    let z = and_then_ok (name_at y.1) (λ k ws. read_as (λ _. (x.0, k)) (further_at furthers.OpenArgument ws)) p rest y.3 in
    let w = read_as_ok (λ _. (x.0, z.0)) (further_at furthers.OpenArgument z.1) p rest z.3 in
    let bound = name_found ts x.0 x.1 x.2 in
    let entity = name_found y.1 z.0 z.1 z.2 in
    let last = further_at_is furthers.OpenArgument z.1 w.0 rest w.1 in
    let behind : x.1 ≡ mark Colon ∷ name entity.0 ∷ further furthers.OpenArgument ∷ rest =
    mark_at_is Colon x.1 y.0 y.1 y.2 ∙ ap (λ (us : List TokenForm). mark Colon ∷ us) (entity.1 ∙ ap (λ (us : List TokenForm). name entity.0 ∷ us) last) in
    (bound.0, entity.0, bound.1 ∙ ap (λ (us : List TokenForm). name bound.0 ∷ us) behind, sym w.2 ∙ sym (ap₂ (λ (n k : List ℕ). (n, k)) bound.2 entity.2))

pub head_shorter : (ts : List TokenForm) (p : List ℕ × List ℕ) (rest : List TokenForm) → head_at ts ≡ Ok (p, rest) → length rest ≤ length ts
head_shorter ts p rest e = let head = head_found ts p rest e in omega (arith, ap length head.2)

quantified_found : (q : Further) (make : List ℕ → List ℕ → RawTree → RawTree)
    → ((x e : List ℕ) (ts : List TokenForm) (f : RawTree) → SpellsFormula whole_level ts f → SpellsFormula prefix_level (further q ∷ name x ∷ mark Colon ∷ name e ∷ further furthers.OpenArgument ∷ ts ++ mark CloseParenthesis ∷ []) (make (cut_name x) (cut_name e) f))
    → (whole : Reads) → Finds whole_level whole → (ts : List TokenForm) (f : RawTree) (rest : List TokenForm) → quantified_with make whole ts ≡ Ok (f, rest) → Begins prefix_level (further q ∷ ts) f rest
unfolding quantified_with
quantified_found q make makes whole finds ts f rest e =
    let x = and_then_ok (head_at ts) (λ p inner. read_as (make p.0 p.1) (closed (whole inner))) f rest e in
    let y = read_as_ok (make x.0.0 x.0.1) (closed (whole x.1)) f rest x.3 in
    let head = head_found ts x.0 x.1 x.2 in
    let part = closed_parts whole finds x.1 y.0 rest y.1 in
    let tokens : further q ∷ ts ≡ (further q ∷ name head.0 ∷ mark Colon ∷ name head.1 ∷ further furthers.OpenArgument ∷ part.0 ++ mark CloseParenthesis ∷ []) ++ rest =
    ap (λ (us : List TokenForm). further q ∷ us) (head.2 ∙ ap (λ (us : List TokenForm). name head.0 ∷ mark Colon ∷ name head.1 ∷ further furthers.OpenArgument ∷ us) (part.2 ∙ sym (append_assoc part.0 (mark CloseParenthesis ∷ []) rest))) in
    let is : make (cut_name head.0) (cut_name head.1) y.0 ≡ f = ap (λ (p : List ℕ × List ℕ). make p.0 p.1 y.0) (sym head.3) ∙ y.2 in
    same_formula prefix_level (further q ∷ ts) (make (cut_name head.0) (cut_name head.1) y.0) f rest is
    (further q ∷ name head.0 ∷ mark Colon ∷ name head.1 ∷ further furthers.OpenArgument ∷ part.0 ++ mark CloseParenthesis ∷ [], makes head.0 head.1 part.0 y.0 part.1, tokens)

simple_found : (whole : Reads) → Finds whole_level whole → Finds prefix_level (simple_with whole)
unfolding simple_with
simple_found whole finds ts f rest e =
    elim (if_behind_cases (behind_further furthers.All ts) (quantified_with for_all whole) (if_behind (behind_further furthers.Some ts) (quantified_with for_some whole) (primary_with whole ts)) (Ok (f, rest)) e) [
      | inl h ↦ subst (λ (us : List TokenForm). Begins prefix_level us f rest) (sym (further_is furthers.All ts h.0 h.1)) (quantified_found furthers.All for_all (λ x k us g s. a_universal x k s) whole finds h.0 f rest h.2)
      | inr h ↦
          elim (if_behind_cases (behind_further furthers.Some ts) (quantified_with for_some whole) (primary_with whole ts) (Ok (f, rest)) h.1) [
            | inl k ↦ subst (λ (us : List TokenForm). Begins prefix_level us f rest) (sym (further_is furthers.Some ts k.0 k.1)) (quantified_found furthers.Some for_some (λ x k us g s. an_existential x k s) whole finds k.0 f rest k.2)
            | inr k ↦ let part = primary_found whole finds ts f rest k.1 in (part.0, a_primary part.1, part.2)
          ]
    ]

-- ---- operators of one operand

-- the tokens of an operator, before an operand
abbrev Opens : Option Opening → List TokenForm → List TokenForm → Type 0
Opens None ts rest = ts ≡ rest
Opens (Some o) ts rest = (front : List TokenForm) × (ts ≡ front ++ rest) × ((us : List TokenForm) (f : RawTree) → SpellsFormula prefix_level us f → SpellsFormula prefix_level (front ++ us) (opened o f)) × (0 < length front)

eventually_found : (d : Option ℕ) (ts rest : List TokenForm) → IsBound d ts rest → Opens (Some (openings.Eventually d)) (keyword keywords.Eventually ∷ ts) rest
eventually_found None ts rest is = (keyword keywords.Eventually ∷ [], ap (λ (us : List TokenForm). keyword keywords.Eventually ∷ us) is, λ us f s. an_eventually s, omega arith)
eventually_found (Some d) ts rest is = (
  keyword keywords.Eventually ∷ keyword keywords.Within ∷ number is.0 is.1 ∷ [],
  ap (λ (us : List TokenForm). keyword keywords.Eventually ∷ us) is.2,
  λ us f s. subst (λ (k : ℕ). SpellsFormula prefix_level (keyword keywords.Eventually ∷ keyword keywords.Within ∷ number is.0 is.1 ∷ us) (eventually_within k f)) is.3 (an_eventually_within is.0 is.1 s),
  omega arith,
)

always_found : (d : Option ℕ) (ts rest : List TokenForm) → IsBound d ts rest → Opens (Some (openings.Always d)) (keyword keywords.Always ∷ ts) rest
always_found None ts rest is = (keyword keywords.Always ∷ [], ap (λ (us : List TokenForm). keyword keywords.Always ∷ us) is, λ us f s. an_always s, omega arith)
always_found (Some d) ts rest is = (
  keyword keywords.Always ∷ keyword keywords.Within ∷ number is.0 is.1 ∷ [],
  ap (λ (us : List TokenForm). keyword keywords.Always ∷ us) is.2,
  λ us f s. subst (λ (k : ℕ). SpellsFormula prefix_level (keyword keywords.Always ∷ keyword keywords.Within ∷ number is.0 is.1 ∷ us) (always_within k f)) is.3 (an_always_within is.0 is.1 s),
  omega arith,
)

same_opens : (o p : Option Opening) (ts us rest more : List TokenForm) → ◌≡◌ {A = Reading (Option Opening)} (Ok (o, rest)) (Ok (p, more)) → ts ≡ us → Opens o us rest → Opens p ts more
same_opens o p ts us rest more e same h =
    let q = ok_parts o p rest more e in
    subst (λ (x : Option Opening). Opens x ts more) q.0 (subst (λ (r : List TokenForm). Opens o ts r) q.1 (subst (λ (t : List TokenForm). Opens o t rest) (sym same) h))

bounded_opens : (make : Option ℕ → Opening) (k : Keyword) (ts inner : List TokenForm) (o : Option Opening) (rest : List TokenForm)
    → ((d : Option ℕ) (us more : List TokenForm) → IsBound d us more → Opens (Some (make d)) (keyword k ∷ us) more)
    → ts ≡ keyword k ∷ inner → read_as (λ d. Some (make d)) (bound_at inner) ≡ Ok (o, rest) → Opens o ts rest
bounded_opens make k ts inner o rest opens same e =
    let x = read_as_ok (λ d. Some (make d)) (bound_at inner) o rest e in
    subst (λ (p : Option Opening). Opens p ts rest) x.2 (subst (λ (t : List TokenForm). Opens (Some (make x.0)) t rest) (sym same) (opens x.0 inner rest (bound_found inner x.0 rest x.1)))

opening_found : (ts : List TokenForm) (o : Option Opening) (rest : List TokenForm) → opening_at ts ≡ Ok (o, rest) → Opens o ts rest
unfolding opening_at
opening_found ts o rest e =
    elim (if_behind_cases (behind_keyword keywords.Not ts) (λ more. Ok (Some openings.Not, more)) (if_behind (behind_keyword keywords.Next ts) (λ more. Ok (Some openings.Next, more)) (if_behind (behind_keyword keywords.Eventually ts) (λ more. read_as (λ d. Some (openings.Eventually d)) (bound_at more)) (if_behind (behind_keyword keywords.Always ts) (λ more. read_as (λ d. Some (openings.Always d)) (bound_at more)) (Ok (None, ts))))) (Ok (o, rest)) e) [
      | inl h ↦ same_opens (Some openings.Not) o ts (keyword keywords.Not ∷ h.0) h.0 rest h.2 (keyword_is keywords.Not ts h.0 h.1) (keyword keywords.Not ∷ [], refl, λ us f s. a_negation s, omega arith)
      | inr h ↦
          elim (if_behind_cases (behind_keyword keywords.Next ts) (λ more. Ok (Some openings.Next, more)) (if_behind (behind_keyword keywords.Eventually ts) (λ more. read_as (λ d. Some (openings.Eventually d)) (bound_at more)) (if_behind (behind_keyword keywords.Always ts) (λ more. read_as (λ d. Some (openings.Always d)) (bound_at more)) (Ok (None, ts)))) (Ok (o, rest)) h.1) [
            | inl k ↦ same_opens (Some openings.Next) o ts (keyword keywords.Next ∷ k.0) k.0 rest k.2 (keyword_is keywords.Next ts k.0 k.1) (keyword keywords.Next ∷ [], refl, λ us f s. a_next s, omega arith)
            | inr k ↦ bounded ts o rest k.1
          ]
    ]
  where
    bounded : (ts : List TokenForm) (o : Option Opening) (rest : List TokenForm) → (if_behind (behind_keyword keywords.Eventually ts) (λ more. read_as (λ d. Some (openings.Eventually d)) (bound_at more)) (if_behind (behind_keyword keywords.Always ts) (λ more. read_as (λ d. Some (openings.Always d)) (bound_at more)) (Ok (None, ts)))) ≡ Ok (o, rest) → Opens o ts rest
    bounded ts o rest e =
        elim (if_behind_cases (behind_keyword keywords.Eventually ts) (λ more. read_as (λ d. Some (openings.Eventually d)) (bound_at more)) (if_behind (behind_keyword keywords.Always ts) (λ more. read_as (λ d. Some (openings.Always d)) (bound_at more)) (Ok (None, ts))) (Ok (o, rest)) e) [
          | inl h ↦ bounded_opens openings.Eventually keywords.Eventually ts h.0 o rest eventually_found (keyword_is keywords.Eventually ts h.0 h.1) h.2
          | inr h ↦
              elim (if_behind_cases (behind_keyword keywords.Always ts) (λ more. read_as (λ d. Some (openings.Always d)) (bound_at more)) (Ok (None, ts)) (Ok (o, rest)) h.1) [
                | inl k ↦ bounded_opens openings.Always keywords.Always ts k.0 o rest always_found (keyword_is keywords.Always ts k.0 k.1) k.2
                | inr k ↦ same_opens None o ts ts ts rest k.1 refl refl
              ]
        ]

-- an operator takes a token
pub opening_shorter : (ts : List TokenForm) (o : Opening) (rest : List TokenForm) → opening_at ts ≡ Ok (Some o, rest) → length rest < length ts
opening_shorter ts o rest e = let front = opening_found ts (Some o) rest e in omega (arith, front.3, ap length front.1, length-append front.0 rest)

pub opening_none : (ts rest : List TokenForm) → opening_at ts ≡ Ok (None, rest) → ts ≡ rest
opening_none ts rest e = opening_found ts None rest e

prefix_found : (prefix whole : Reads) → Finds prefix_level prefix → Finds whole_level whole → Finds prefix_level (prefix_with prefix whole)
unfolding prefix_with
prefix_found prefix whole finds inside ts f rest e =
    let x = and_then_ok (opening_at ts) (prefix_behind prefix whole) f rest e in
    by_opening x.0 x.1 (opening_found ts x.0 x.1 x.2) x.3
  where
    by_opening : (o : Option Opening) (more : List TokenForm) → Opens o ts more → prefix_behind prefix whole o more ≡ Ok (f, rest) → Begins prefix_level ts f rest
    by_opening None more same e = let part = simple_found whole inside more f rest e in (part.0, part.1, same ∙ part.2)
    by_opening (Some o) more front e =
        let x = read_as_ok (opened o) (prefix more) f rest e in
        let part = finds more x.0 rest x.1 in
        let tokens : ts ≡ (front.0 ++ part.0) ++ rest = front.1 ∙ ap (λ (us : List TokenForm). front.0 ++ us) part.2 ∙ sym (append_assoc front.0 part.0 rest) in
        same_formula prefix_level ts (opened o x.0) f rest x.2 (front.0 ++ part.0, front.2 part.0 x.0 part.1, tokens)

-- ---- operators of two operands over time

-- the tokens of an operator, between two operands
abbrev Joins : Option Joining → List TokenForm → List TokenForm → Type 0
Joins None ts rest = ts ≡ rest
Joins (Some j) ts rest = (middle : List TokenForm) × (ts ≡ middle ++ rest) × ((us vs : List TokenForm) (f g : RawTree) → SpellsFormula prefix_level us f → SpellsFormula prefix_level vs g → SpellsFormula tempo_level (us ++ (middle ++ vs)) (joined j f g))

until_found : (d : Option ℕ) (ts rest : List TokenForm) → IsBound d ts rest → Joins (Some (joinings.Until d)) (keyword keywords.Until ∷ ts) rest
until_found None ts rest is = (keyword keywords.Until ∷ [], ap (λ (us : List TokenForm). keyword keywords.Until ∷ us) is, λ us vs f g s t. an_until s t)
until_found (Some d) ts rest is = (
  keyword keywords.Until ∷ keyword keywords.Within ∷ number is.0 is.1 ∷ [],
  ap (λ (us : List TokenForm). keyword keywords.Until ∷ us) is.2,
  λ us vs f g s t. subst (λ (k : ℕ). SpellsFormula tempo_level (us ++ keyword keywords.Until ∷ keyword keywords.Within ∷ number is.0 is.1 ∷ vs) (until_within k f g)) is.3 (an_until_within is.0 is.1 s t),
)

unless_found : (d : Option ℕ) (ts rest : List TokenForm) → IsBound d ts rest → Joins (Some (joinings.Unless d)) (keyword keywords.Unless ∷ ts) rest
unless_found None ts rest is = (keyword keywords.Unless ∷ [], ap (λ (us : List TokenForm). keyword keywords.Unless ∷ us) is, λ us vs f g s t. an_unless s t)
unless_found (Some d) ts rest is = (
  keyword keywords.Unless ∷ keyword keywords.Within ∷ number is.0 is.1 ∷ [],
  ap (λ (us : List TokenForm). keyword keywords.Unless ∷ us) is.2,
  λ us vs f g s t. subst (λ (k : ℕ). SpellsFormula tempo_level (us ++ keyword keywords.Unless ∷ keyword keywords.Within ∷ number is.0 is.1 ∷ vs) (unless_within k f g)) is.3 (an_unless_within is.0 is.1 s t),
)

release_found : (d : Option ℕ) (ts rest : List TokenForm) → IsBound d ts rest → Joins (Some (joinings.Release d)) (keyword keywords.Release ∷ ts) rest
release_found None ts rest is = (keyword keywords.Release ∷ [], ap (λ (us : List TokenForm). keyword keywords.Release ∷ us) is, λ us vs f g s t. a_release s t)
release_found (Some d) ts rest is = (
  keyword keywords.Release ∷ keyword keywords.Within ∷ number is.0 is.1 ∷ [],
  ap (λ (us : List TokenForm). keyword keywords.Release ∷ us) is.2,
  λ us vs f g s t. subst (λ (k : ℕ). SpellsFormula tempo_level (us ++ keyword keywords.Release ∷ keyword keywords.Within ∷ number is.0 is.1 ∷ vs) (release_within k f g)) is.3 (a_release_within is.0 is.1 s t),
)

bounded_joins : (make : Option ℕ → Joining) (k : Keyword) (ts inner : List TokenForm) (o : Option Joining) (rest : List TokenForm)
    → ((d : Option ℕ) (us more : List TokenForm) → IsBound d us more → Joins (Some (make d)) (keyword k ∷ us) more)
    → ts ≡ keyword k ∷ inner → read_as (λ d. Some (make d)) (bound_at inner) ≡ Ok (o, rest) → Joins o ts rest
bounded_joins make k ts inner o rest joins same e =
    let x = read_as_ok (λ d. Some (make d)) (bound_at inner) o rest e in
    subst (λ (p : Option Joining). Joins p ts rest) x.2 (subst (λ (t : List TokenForm). Joins (Some (make x.0)) t rest) (sym same) (joins x.0 inner rest (bound_found inner x.0 rest x.1)))

joining_found : (ts : List TokenForm) (o : Option Joining) (rest : List TokenForm) → joining_at ts ≡ Ok (o, rest) → Joins o ts rest
unfolding joining_at
joining_found ts o rest e =
    elim (if_behind_cases (behind_keyword keywords.Until ts) (λ more. read_as (λ d. Some (joinings.Until d)) (bound_at more)) (if_behind (behind_keyword keywords.Unless ts) (λ more. read_as (λ d. Some (joinings.Unless d)) (bound_at more)) (if_behind (behind_keyword keywords.Release ts) (λ more. read_as (λ d. Some (joinings.Release d)) (bound_at more)) (Ok (None, ts)))) (Ok (o, rest)) e) [
      | inl h ↦ bounded_joins joinings.Until keywords.Until ts h.0 o rest until_found (keyword_is keywords.Until ts h.0 h.1) h.2
      | inr h ↦
          elim (if_behind_cases (behind_keyword keywords.Unless ts) (λ more. read_as (λ d. Some (joinings.Unless d)) (bound_at more)) (if_behind (behind_keyword keywords.Release ts) (λ more. read_as (λ d. Some (joinings.Release d)) (bound_at more)) (Ok (None, ts))) (Ok (o, rest)) h.1) [
            | inl k ↦ bounded_joins joinings.Unless keywords.Unless ts k.0 o rest unless_found (keyword_is keywords.Unless ts k.0 k.1) k.2
            | inr k ↦ last ts o rest k.1
          ]
    ]
  where
    last : (ts : List TokenForm) (o : Option Joining) (rest : List TokenForm) → (if_behind (behind_keyword keywords.Release ts) (λ more. read_as (λ d. Some (joinings.Release d)) (bound_at more)) (Ok (None, ts))) ≡ Ok (o, rest) → Joins o ts rest
    last ts o rest e =
        elim (if_behind_cases (behind_keyword keywords.Release ts) (λ more. read_as (λ d. Some (joinings.Release d)) (bound_at more)) (Ok (None, ts)) (Ok (o, rest)) e) [
          | inl h ↦ bounded_joins joinings.Release keywords.Release ts h.0 o rest release_found (keyword_is keywords.Release ts h.0 h.1) h.2
          | inr h ↦
              let q = ok_parts None o ts rest h.1 in
              subst (λ (x : Option Joining). Joins x ts rest) q.0 q.1
        ]

pub joining_shorter : (ts : List TokenForm) (j : Joining) (rest : List TokenForm) → joining_at ts ≡ Ok (Some j, rest) → length rest ≤ length ts
joining_shorter ts j rest e = let middle = joining_found ts (Some j) rest e in omega (arith, ap length middle.1, length-append middle.0 rest)

pub tempo_found : (prefix : Reads) → Finds prefix_level prefix → Finds tempo_level (tempo_with prefix)
unfolding tempo_with
tempo_found prefix finds ts f rest e =
    let x = and_then_ok (prefix ts) (λ g more. and_then (joining_at more) (tempo_behind prefix g)) f rest e in
    let y = and_then_ok (joining_at x.1) (tempo_behind prefix x.0) f rest x.3 in
    by_joining x.0 x.1 (finds ts x.0 x.1 x.2) y.0 y.1 (joining_found x.1 y.0 y.1 y.2) y.3
  where
    by_joining : (g : RawTree) (behind : List TokenForm) → Begins prefix_level ts g behind → (o : Option Joining) (more : List TokenForm) → Joins o behind more → tempo_behind prefix g o more ≡ Ok (f, rest) → Begins tempo_level ts f rest
    by_joining g behind first None more same e = same_begins tempo_level ts g f more rest e (first.0, a_prefix first.1, first.2 ∙ ap (λ (us : List TokenForm). first.0 ++ us) same)
    by_joining g behind first (Some j) more middle e =
        let x = read_as_ok (joined j g) (prefix more) f rest e in
        let second = finds more x.0 rest x.1 in
        let inner : behind ≡ (middle.0 ++ second.0) ++ rest = middle.1 ∙ ap (λ (us : List TokenForm). middle.0 ++ us) second.2 ∙ sym (append_assoc middle.0 second.0 rest) in
        let tokens : ts ≡ (first.0 ++ (middle.0 ++ second.0)) ++ rest = first.2 ∙ ap (λ (us : List TokenForm). first.0 ++ us) inner ∙ sym (append_assoc first.0 (middle.0 ++ second.0) rest) in
        same_formula tempo_level ts (joined j g x.0) f rest x.2 (first.0 ++ (middle.0 ++ second.0), middle.2 first.0 second.0 g x.0 first.1 second.1, tokens)

-- ---- operands with an operator between them

-- an operator that makes a formula of a level of two others
abbrev Makes : Level → Level → Level → Keyword → (RawTree → RawTree → RawTree) → Type 0
Makes first second l k make = (ts us : List TokenForm) (f g : RawTree) → SpellsFormula first ts f → SpellsFormula second us g → SpellsFormula l (ts ++ keyword k ∷ us) (make f g)

-- the tokens before an operator, and those of its right operand
joined_tokens : (k : Keyword) (all front ts inner part rest : List TokenForm) → all ≡ front ++ ts → behind_keyword k ts ≡ Some inner → inner ≡ part ++ rest → all ≡ (front ++ keyword k ∷ part) ++ rest
joined_tokens k all front ts inner part rest parts is same =
    parts ∙ ap (λ (us : List TokenForm). front ++ us) (keyword_is k ts inner is ∙ ap (λ (us : List TokenForm). keyword k ∷ us) same) ∙ sym (append_assoc front (keyword k ∷ part) rest)

chain_found : (k : Keyword) (make : RawTree → RawTree → RawTree) (l below : Level) → Makes l below l k make → (operand : Reads) → Finds below operand
    → (n : ℕ) (f : RawTree) (all front ts : List TokenForm) (g : RawTree) (rest : List TokenForm) → SpellsFormula l front f → all ≡ front ++ ts → chain (behind_keyword k) make operand n f ts ≡ Ok (g, rest) → Begins l all g rest
unfolding chain
chain_found k make l below makes operand finds zero f all front ts g rest so_far parts e = same_begins l all f g ts rest e (front, so_far, parts)
chain_found k make l below makes operand finds (suc n) f all front ts g rest so_far parts e =
    elim (if_behind_cases (behind_keyword k ts) (λ inner. and_then (operand inner) (λ h more. chain (behind_keyword k) make operand n (make f h) more)) (Ok (f, ts)) (Ok (g, rest)) e) [
      | inl h ↦
          let x = and_then_ok (operand h.0) (λ h more. chain (behind_keyword k) make operand n (make f h) more) g rest h.2 in
          let part = finds h.0 x.0 x.1 x.2 in
          chain_found k make l below makes operand finds n (make f x.0) all (front ++ keyword k ∷ part.0) x.1 g rest (makes front part.0 f x.0 so_far part.1) (joined_tokens k all front ts h.0 part.0 x.1 parts h.1 part.2) x.3
      | inr h ↦ same_begins l all f g ts rest h.1 (front, so_far, parts)
    ]

pub and_found : (prefix : Reads) → Finds prefix_level prefix → Finds and_level (and_with prefix)
unfolding and_with
and_found prefix finds ts f rest e =
    let operands = tempo_found prefix finds in
    let x = and_then_ok (tempo_with prefix ts) (λ g more. chain (behind_keyword keywords.And) conj (tempo_with prefix) (length more) g more) f rest e in
    let first = operands ts x.0 x.1 x.2 in
    chain_found keywords.And conj and_level tempo_level (λ us vs g h s t. a_conjunction s t) (tempo_with prefix) operands (length x.1) x.0 ts first.0 x.1 f rest (a_tempo first.1) first.2 x.3

pub or_found : (prefix : Reads) → Finds prefix_level prefix → Finds or_level (or_with prefix)
unfolding or_with
or_found prefix finds ts f rest e =
    let operands = and_found prefix finds in
    let x = and_then_ok (and_with prefix ts) (λ g more. chain (behind_keyword keywords.Or) disj (and_with prefix) (length more) g more) f rest e in
    let first = operands ts x.0 x.1 x.2 in
    chain_found keywords.Or disj or_level and_level (λ us vs g h s t. a_disjunction s t) (and_with prefix) operands (length x.1) x.0 ts first.0 x.1 f rest (a_conjunct first.1) first.2 x.3

right_found : (k : Keyword) (make : RawTree → RawTree → RawTree) (first second l : Level) → Makes first second l k make → ((ts : List TokenForm) (f : RawTree) → SpellsFormula first ts f → SpellsFormula l ts f) → (operand : Reads) → Finds second operand
    → (f : RawTree) (all ts : List TokenForm) → Begins first all f ts → (o : Option (List TokenForm)) → behind_keyword k ts ≡ o → (g : RawTree) (rest : List TokenForm) → with_right (make f) operand f ts o ≡ Ok (g, rest) → Begins l all g rest
right_found k make first second l makes alone operand finds f all ts left None is g rest e = same_begins l all f g ts rest e (left.0, alone left.0 f left.1, left.2)
right_found k make first second l makes alone operand finds f all ts left (Some inner) is g rest e =
    let x = read_as_ok (make f) (operand inner) g rest e in
    let right = finds inner x.0 rest x.1 in
    same_formula l all (make f x.0) g rest x.2 (left.0 ++ keyword k ∷ right.0, makes left.0 right.0 f x.0 left.1 right.1, joined_tokens k all left.0 ts inner right.0 rest left.2 is right.2)

pub implies_from_found : (prefix : Reads) → Finds prefix_level prefix → (n : ℕ) → Finds implies_level (implies_from prefix n)
unfolding implies_from
implies_from_found prefix finds zero ts f rest e = let part = or_found prefix finds ts f rest e in (part.0, a_disjunct part.1, part.2)
implies_from_found prefix finds (suc n) ts f rest e =
    let x = and_then_ok (or_with prefix ts) (λ g more. with_right (implies g) (implies_from prefix n) g more (behind_keyword keywords.Implies more)) f rest e in
    right_found keywords.Implies implies or_level implies_level implies_level (λ us vs g h s t. an_implication s t) (λ us g s. a_disjunct s) (implies_from prefix n) (implies_from_found prefix finds n) x.0 ts x.1 (or_found prefix finds ts x.0 x.1 x.2) (behind_keyword keywords.Implies x.1) refl f rest x.3

pub implies_found : (prefix : Reads) → Finds prefix_level prefix → Finds implies_level (implies_with prefix)
unfolding implies_with
implies_found prefix finds ts f rest e = implies_from_found prefix finds (length ts) ts f rest e

pub iff_with_found : (prefix : Reads) → Finds prefix_level prefix → Finds iff_level (iff_with prefix)
unfolding iff_with
iff_with_found prefix finds ts f rest e =
    let operands = implies_found prefix finds in
    let x = and_then_ok (implies_with prefix ts) (λ g more. with_right (iff g) (implies_with prefix) g more (behind_keyword keywords.Iff more)) f rest e in
    right_found keywords.Iff iff implies_level implies_level iff_level (λ us vs g h s t. an_equivalence s t) (λ us g s. a_side s) (implies_with prefix) operands x.0 ts x.1 (operands ts x.0 x.1 x.2) (behind_keyword keywords.Iff x.1) refl f rest x.3

pub whole_with_found : (prefix : Reads) → Finds prefix_level prefix → Finds whole_level (whole_with prefix)
unfolding whole_with
whole_with_found prefix finds ts f rest e =
    let operands = iff_with_found prefix finds in
    let x = and_then_ok (iff_with prefix ts) (λ g more. with_right (entails g) (iff_with prefix) g more (behind_keyword keywords.Entails more)) f rest e in
    right_found keywords.Entails entails iff_level iff_level whole_level (λ us vs g h s t. an_entailment s t) (λ us g s. a_whole s) (iff_with prefix) operands x.0 ts x.1 (operands ts x.0 x.1 x.2) (behind_keyword keywords.Entails x.1) refl f rest x.3

pub prefix_at_found : (n : ℕ) → Finds prefix_level (prefix_at n)
unfolding prefix_at
prefix_at_found zero ts f rest e = absurd cc
prefix_at_found (suc n) ts f rest e = prefix_found (prefix_at n) (whole_with (prefix_at n)) (prefix_at_found n) (whole_with_found (prefix_at n) (prefix_at_found n)) ts f rest e
