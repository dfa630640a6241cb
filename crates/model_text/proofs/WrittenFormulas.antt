-- What a formula is written with spells the same formula, at each place.
use Rattle.std.proofs.Common.{◌≡◌, ℕ, Bool, true, false, List, [], ◌∷◌, ◌++◌, refl, sym, subst, append_assoc, Some}
use Rattle.std.specs.Prelude.{nat_le, decimal, if◌then◌else◌}
use Rattle.state_space.specs.declared.keyword.Keyword.TheVariants as keywords
use Rattle.model_tokens.specs.declared.token.Sign.TheVariants.{Comma, OpenParenthesis, CloseParenthesis, OpenBrace, CloseBrace}
use Rattle.model_tokens.specs.declared.token.Further.TheVariants as furthers
use Rattle.model_tokens.specs.Tokens.{TokenForm, keyword, mark, name, number}
use Rattle.model_text.specs.RawTrees.{WrittenValue, a_word, a_number, a_truth, an_attribute, RawTree, bare, compares, among, bare_of, compares_of, among_of, for_all, for_some, eventually_within, always_within, until_within, unless_within, release_within}
use Rattle.model_tokens.specs.Values.{cut_name, bound_value}
use Rattle.model_text.specs.Leaves.{value_of}
use Rattle.model_text.specs.FormulaGrammar.{Level, whole_level, iff_level, implies_level, or_level, and_level, tempo_level, prefix_level, primary_level, argument, SpellsValues, one_value, more_values, SpellsRight, a_value, an_attribute_value, SpellsFormula, a_truth, a_falsity, in_parentheses, a_flag, a_comparison, a_choice, a_flag_of, a_comparison_of, a_choice_of, a_universal, an_existential, a_primary, a_negation, a_next, an_eventually, an_always, an_eventually_within, an_always_within, a_prefix, an_until, an_unless, a_release, an_until_within, an_unless_within, a_release_within, a_tempo, a_conjunction, a_conjunct, a_disjunction, a_disjunct, an_implication, a_side, an_equivalence, a_whole, an_entailment}
use Rattle.model_text.specs.Writing.{tightness, enclosed, sign_of, value_token, right_tokens, values_tokens, quantified_tokens, within_tokens, formula_tokens}
use Rattle.model_text.proofs.WrittenLeaves.{cut_again, bound_again, sign_again, value_again}

-- what a rule spells is spelled at each place that asks for no tighter one
loosened : {ts : List TokenForm} {f : RawTree} (asked own : Level) → nat_le (tightness asked) (tightness own) ≡ true → SpellsFormula own ts f → SpellsFormula asked ts f
loosened whole_level whole_level e s = s
loosened whole_level iff_level e s = a_whole s
loosened whole_level implies_level e s = a_whole (a_side s)
loosened whole_level or_level e s = a_whole (a_side (a_disjunct s))
loosened whole_level and_level e s = a_whole (a_side (a_disjunct (a_conjunct s)))
loosened whole_level tempo_level e s = a_whole (a_side (a_disjunct (a_conjunct (a_tempo s))))
loosened whole_level prefix_level e s = a_whole (a_side (a_disjunct (a_conjunct (a_tempo (a_prefix s)))))
loosened whole_level primary_level e s = a_whole (a_side (a_disjunct (a_conjunct (a_tempo (a_prefix (a_primary s))))))
loosened iff_level iff_level e s = s
loosened iff_level implies_level e s = a_side s
loosened iff_level or_level e s = a_side (a_disjunct s)
loosened iff_level and_level e s = a_side (a_disjunct (a_conjunct s))
loosened iff_level tempo_level e s = a_side (a_disjunct (a_conjunct (a_tempo s)))
loosened iff_level prefix_level e s = a_side (a_disjunct (a_conjunct (a_tempo (a_prefix s))))
loosened iff_level primary_level e s = a_side (a_disjunct (a_conjunct (a_tempo (a_prefix (a_primary s)))))
loosened implies_level implies_level e s = s
loosened implies_level or_level e s = a_disjunct s
loosened implies_level and_level e s = a_disjunct (a_conjunct s)
loosened implies_level tempo_level e s = a_disjunct (a_conjunct (a_tempo s))
loosened implies_level prefix_level e s = a_disjunct (a_conjunct (a_tempo (a_prefix s)))
loosened implies_level primary_level e s = a_disjunct (a_conjunct (a_tempo (a_prefix (a_primary s))))
loosened or_level or_level e s = s
loosened or_level and_level e s = a_conjunct s
loosened or_level tempo_level e s = a_conjunct (a_tempo s)
loosened or_level prefix_level e s = a_conjunct (a_tempo (a_prefix s))
loosened or_level primary_level e s = a_conjunct (a_tempo (a_prefix (a_primary s)))
loosened and_level and_level e s = s
loosened and_level tempo_level e s = a_tempo s
loosened and_level prefix_level e s = a_tempo (a_prefix s)
loosened and_level primary_level e s = a_tempo (a_prefix (a_primary s))
loosened tempo_level tempo_level e s = s
loosened tempo_level prefix_level e s = a_prefix s
loosened tempo_level primary_level e s = a_prefix (a_primary s)
loosened prefix_level prefix_level e s = s
loosened prefix_level primary_level e s = a_primary s
loosened primary_level primary_level e s = s
loosened asked own e s = absurd cc

primary_is_tight : (asked : Level) → nat_le (tightness asked) (tightness primary_level) ≡ true
primary_is_tight whole_level = refl
primary_is_tight iff_level = refl
primary_is_tight implies_level = refl
primary_is_tight or_level = refl
primary_is_tight and_level = refl
primary_is_tight tempo_level = refl
primary_is_tight prefix_level = refl
primary_is_tight primary_level = refl

whole_is_loose : (own : Level) → nat_le (tightness whole_level) (tightness own) ≡ true
whole_is_loose whole_level = refl
whole_is_loose iff_level = refl
whole_is_loose implies_level = refl
whole_is_loose or_level = refl
whole_is_loose and_level = refl
whole_is_loose tempo_level = refl
whole_is_loose prefix_level = refl
whole_is_loose primary_level = refl

primary_placed : {ts : List TokenForm} {f : RawTree} (asked : Level) → SpellsFormula primary_level ts f → SpellsFormula asked ts f
primary_placed asked s = loosened asked primary_level (primary_is_tight asked) s

-- what a rule spells, at any place
placed : {ts : List TokenForm} {f : RawTree} (asked own : Level) → SpellsFormula own ts f → SpellsFormula asked (enclosed asked own ts) f
placed {ts = ts} {f = f} asked own s = by_test (nat_le (tightness asked) (tightness own)) refl
  where
    by_test : (b : Bool) → nat_le (tightness asked) (tightness own) ≡ b → SpellsFormula asked (if b then ts else mark OpenParenthesis ∷ ts ++ mark CloseParenthesis ∷ []) f
    by_test true e = loosened asked own e s
    by_test false e = primary_placed asked (in_parentheses (loosened whole_level own (whole_is_loose own) s))

pub more_is : {ts : List TokenForm} {vs : List WrittenValue} (v : WrittenValue) → SpellsValues ts vs → values_tokens (v ∷ vs) ≡ value_token v ∷ mark Comma ∷ values_tokens vs
more_is v (one_value t w e) = refl
more_is v (more_values t w ts vs e s) = refl

pub written_values : {ts : List TokenForm} {vs : List WrittenValue} → SpellsValues ts vs → SpellsValues (values_tokens vs) vs
written_values (one_value t v e) = one_value (value_token v) v (value_again t v e)
written_values (more_values t v ts vs e s) =
    subst (λ (us : List TokenForm). SpellsValues us (v ∷ vs)) (sym (more_is v s)) (more_values (value_token v) v (values_tokens vs) vs (value_again t v e) (written_values s))

-- no value is an attribute with a name
pub no_attribute : (t : TokenForm) (f x : List ℕ) → value_of t ≡ Some (an_attribute f x) → ⊥
no_attribute (name y) f x e = cc
no_attribute (number s d) f x e = cc
no_attribute (keyword keywords.True) f x e = cc
no_attribute (keyword keywords.False) f x e = cc
no_attribute t f x e = cc

-- what is written behind a comparison spells the same
right_value : (t : TokenForm) (v : WrittenValue) → value_of t ≡ Some v → SpellsRight (right_tokens v) v
right_value t (a_word f) e = a_value (value_token (a_word f)) (a_word f) (value_again t (a_word f) e)
right_value t (a_number n) e = a_value (value_token (a_number n)) (a_number n) (value_again t (a_number n) e)
right_value t (a_truth b) e = a_value (value_token (a_truth b)) (a_truth b) (value_again t (a_truth b) e)
right_value t (an_attribute f x) e = absurd (no_attribute t f x e)

pub written_right : {ts : List TokenForm} {v : WrittenValue} → SpellsRight ts v → SpellsRight (right_tokens v) v
written_right (a_value t v e) = right_value t v e
written_right (an_attribute_value f x) =
    subst (λ (y : List ℕ). SpellsRight (name (cut_name f) ∷ argument (cut_name x) []) (an_attribute (cut_name f) y)) (cut_again x)
    (subst (λ (g : List ℕ). SpellsRight (name (cut_name f) ∷ argument (cut_name x) []) (an_attribute g (cut_name (cut_name x)))) (cut_again f) (an_attribute_value (cut_name f) (cut_name x)))

-- what is written spells the same formula
pub written_spells : (asked : Level) {l : Level} {ts : List TokenForm} {f : RawTree} → SpellsFormula l ts f → SpellsFormula asked (formula_tokens asked f) f
unfolding formula_tokens
written_spells asked a_truth = primary_placed asked a_truth
written_spells asked a_falsity = primary_placed asked a_falsity
written_spells asked (in_parentheses s) = written_spells asked s
written_spells asked (a_flag x) = primary_placed asked (subst (λ (y : List ℕ). SpellsFormula primary_level (name (cut_name x) ∷ []) (bare y)) (cut_again x) (a_flag (cut_name x)))
written_spells asked (a_comparison x m r {ts} {v} e s) =
    primary_placed asked (subst (λ (y : List ℕ). SpellsFormula primary_level (name (cut_name x) ∷ mark (sign_of r) ∷ right_tokens v) (compares y r v)) (cut_again x) (a_comparison (cut_name x) (sign_of r) r (sign_again r) (written_right s)))
written_spells asked (a_flag_of f x) =
    primary_placed asked (subst (λ (g : List ℕ). SpellsFormula primary_level (name (cut_name f) ∷ argument (cut_name x) []) (bare_of g (cut_name x))) (cut_again f)
    (subst (λ (y : List ℕ). SpellsFormula primary_level (name (cut_name f) ∷ argument (cut_name x) []) (bare_of (cut_name (cut_name f)) y)) (cut_again x) (a_flag_of (cut_name f) (cut_name x))))
written_spells asked (a_comparison_of f x m r {ts} {v} e s) =
    primary_placed asked (subst (λ (g : List ℕ). SpellsFormula primary_level (name (cut_name f) ∷ argument (cut_name x) (mark (sign_of r) ∷ right_tokens v)) (compares_of g (cut_name x) r v)) (cut_again f)
    (subst (λ (y : List ℕ). SpellsFormula primary_level (name (cut_name f) ∷ argument (cut_name x) (mark (sign_of r) ∷ right_tokens v)) (compares_of (cut_name (cut_name f)) y r v)) (cut_again x) (a_comparison_of (cut_name f) (cut_name x) (sign_of r) r (sign_again r) (written_right s))))
written_spells asked (a_choice_of f x {ts} {vs} s) =
    primary_placed asked (subst (λ (g : List ℕ). SpellsFormula primary_level (name (cut_name f) ∷ argument (cut_name x) (keyword keywords.In ∷ mark OpenBrace ∷ values_tokens vs ++ mark CloseBrace ∷ [])) (among_of g (cut_name x) vs)) (cut_again f)
    (subst (λ (y : List ℕ). SpellsFormula primary_level (name (cut_name f) ∷ argument (cut_name x) (keyword keywords.In ∷ mark OpenBrace ∷ values_tokens vs ++ mark CloseBrace ∷ [])) (among_of (cut_name (cut_name f)) y vs)) (cut_again x) (a_choice_of (cut_name f) (cut_name x) (written_values s))))
written_spells asked (a_universal x k {ts} {f} s) =
    placed asked prefix_level (subst (λ (y : List ℕ). SpellsFormula prefix_level (quantified_tokens furthers.All (cut_name x) (cut_name k) (formula_tokens whole_level f)) (for_all y (cut_name k) f)) (cut_again x)
    (subst (λ (z : List ℕ). SpellsFormula prefix_level (quantified_tokens furthers.All (cut_name x) (cut_name k) (formula_tokens whole_level f)) (for_all (cut_name (cut_name x)) z f)) (cut_again k) (a_universal (cut_name x) (cut_name k) (written_spells whole_level s))))
written_spells asked (an_existential x k {ts} {f} s) =
    placed asked prefix_level (subst (λ (y : List ℕ). SpellsFormula prefix_level (quantified_tokens furthers.Some (cut_name x) (cut_name k) (formula_tokens whole_level f)) (for_some y (cut_name k) f)) (cut_again x)
    (subst (λ (z : List ℕ). SpellsFormula prefix_level (quantified_tokens furthers.Some (cut_name x) (cut_name k) (formula_tokens whole_level f)) (for_some (cut_name (cut_name x)) z f)) (cut_again k) (an_existential (cut_name x) (cut_name k) (written_spells whole_level s))))
written_spells asked (a_choice x {ts} {vs} s) =
    primary_placed asked (subst (λ (y : List ℕ). SpellsFormula primary_level (name (cut_name x) ∷ keyword keywords.In ∷ mark OpenBrace ∷ values_tokens vs ++ mark CloseBrace ∷ []) (among y vs)) (cut_again x) (a_choice (cut_name x) (written_values s)))
written_spells asked (a_primary s) = written_spells asked s
written_spells asked (a_negation s) = placed asked prefix_level (a_negation (written_spells prefix_level s))
written_spells asked (a_next s) = placed asked prefix_level (a_next (written_spells prefix_level s))
written_spells asked (an_eventually s) = placed asked prefix_level (an_eventually (written_spells prefix_level s))
written_spells asked (an_always s) = placed asked prefix_level (an_always (written_spells prefix_level s))
written_spells asked (an_eventually_within b d {ts} {f} s) =
    placed asked prefix_level (subst (λ (n : ℕ). SpellsFormula prefix_level (keyword keywords.Eventually ∷ within_tokens (bound_value b d) ++ formula_tokens prefix_level f) (eventually_within n f)) (bound_again b d) (an_eventually_within false (decimal (bound_value b d)) (written_spells prefix_level s)))
written_spells asked (an_always_within b d {ts} {f} s) =
    placed asked prefix_level (subst (λ (n : ℕ). SpellsFormula prefix_level (keyword keywords.Always ∷ within_tokens (bound_value b d) ++ formula_tokens prefix_level f) (always_within n f)) (bound_again b d) (an_always_within false (decimal (bound_value b d)) (written_spells prefix_level s)))
written_spells asked (a_prefix s) = written_spells asked s
written_spells asked (an_until s t) = placed asked tempo_level (an_until (written_spells prefix_level s) (written_spells prefix_level t))
written_spells asked (an_unless s t) = placed asked tempo_level (an_unless (written_spells prefix_level s) (written_spells prefix_level t))
written_spells asked (a_release s t) = placed asked tempo_level (a_release (written_spells prefix_level s) (written_spells prefix_level t))
written_spells asked (an_until_within b d {ts} {us} {f} {g} s t) =
    placed asked tempo_level (subst (λ (us : List TokenForm). SpellsFormula tempo_level us (until_within (bound_value b d) f g)) (sym (append_assoc (formula_tokens prefix_level f) (keyword keywords.Until ∷ within_tokens (bound_value b d)) (formula_tokens prefix_level g)))
    (subst (λ (n : ℕ). SpellsFormula tempo_level (formula_tokens prefix_level f ++ keyword keywords.Until ∷ keyword keywords.Within ∷ number false (decimal (bound_value b d)) ∷ formula_tokens prefix_level g) (until_within n f g)) (bound_again b d) (an_until_within false (decimal (bound_value b d)) (written_spells prefix_level s) (written_spells prefix_level t))))
written_spells asked (an_unless_within b d {ts} {us} {f} {g} s t) =
    placed asked tempo_level (subst (λ (us : List TokenForm). SpellsFormula tempo_level us (unless_within (bound_value b d) f g)) (sym (append_assoc (formula_tokens prefix_level f) (keyword keywords.Unless ∷ within_tokens (bound_value b d)) (formula_tokens prefix_level g)))
    (subst (λ (n : ℕ). SpellsFormula tempo_level (formula_tokens prefix_level f ++ keyword keywords.Unless ∷ keyword keywords.Within ∷ number false (decimal (bound_value b d)) ∷ formula_tokens prefix_level g) (unless_within n f g)) (bound_again b d) (an_unless_within false (decimal (bound_value b d)) (written_spells prefix_level s) (written_spells prefix_level t))))
written_spells asked (a_release_within b d {ts} {us} {f} {g} s t) =
    placed asked tempo_level (subst (λ (us : List TokenForm). SpellsFormula tempo_level us (release_within (bound_value b d) f g)) (sym (append_assoc (formula_tokens prefix_level f) (keyword keywords.Release ∷ within_tokens (bound_value b d)) (formula_tokens prefix_level g)))
    (subst (λ (n : ℕ). SpellsFormula tempo_level (formula_tokens prefix_level f ++ keyword keywords.Release ∷ keyword keywords.Within ∷ number false (decimal (bound_value b d)) ∷ formula_tokens prefix_level g) (release_within n f g)) (bound_again b d) (a_release_within false (decimal (bound_value b d)) (written_spells prefix_level s) (written_spells prefix_level t))))
written_spells asked (a_tempo s) = written_spells asked s
written_spells asked (a_conjunction s t) = placed asked and_level (a_conjunction (written_spells and_level s) (written_spells tempo_level t))
written_spells asked (a_conjunct s) = written_spells asked s
written_spells asked (a_disjunction s t) = placed asked or_level (a_disjunction (written_spells or_level s) (written_spells and_level t))
written_spells asked (a_disjunct s) = written_spells asked s
written_spells asked (an_implication s t) = placed asked implies_level (an_implication (written_spells or_level s) (written_spells implies_level t))
written_spells asked (a_side s) = written_spells asked s
written_spells asked (an_equivalence s t) = placed asked iff_level (an_equivalence (written_spells implies_level s) (written_spells implies_level t))
written_spells asked (a_whole s) = written_spells asked s
written_spells asked (an_entailment s t) = placed asked whole_level (an_entailment (written_spells iff_level s) (written_spells iff_level t))
