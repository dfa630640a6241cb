-- Reading a formula and spelling it are one.
use Rattle.std.proofs.Common.{◌≡◌, ℕ, ◌<◌, ◌≤◌, true, List, [], ◌++◌, length, Ok, refl, sym, ap, ◌∙◌, length-append, arith}
use Rattle.std.proofs.lemmas.List.{append-nil}
use Rattle.model_tokens.specs.Tokens.{TokenForm}
use Rattle.model_text.specs.RawTrees.{RawTree}
use Rattle.model_text.specs.FormulaGrammar.{Level, whole_level, iff_level, SpellsFormula, a_truth, a_falsity, in_parentheses, a_flag, a_comparison, a_choice, a_flag_of, a_comparison_of, a_choice_of, a_universal, an_existential, a_primary, a_negation, a_next, an_eventually, an_always, an_eventually_within, an_always_within, a_prefix, an_until, an_unless, a_release, an_until_within, an_unless_within, a_release_within, a_tempo, a_conjunction, a_conjunct, a_disjunction, a_disjunct, an_implication, a_side, an_equivalence, a_whole, an_entailment}
use Rattle.model_text.specs.FormulaReading.{prefix_at, iff_at, whole_at, ends_iff, ends_whole}
use Rattle.model_text.proofs.FormulaTokens.{ok_parts}
use Rattle.model_text.proofs.FormulaFound.{iff_with_found, whole_with_found, prefix_at_found}
use Rattle.model_text.proofs.FormulaRead.{spelled_read}

-- ---- what is read at the front is spelled there

pub whole_found : (n : ℕ) (ts : List TokenForm) (f : RawTree) (rest : List TokenForm) → whole_at n ts ≡ Ok (f, rest) → (front : List TokenForm) × SpellsFormula whole_level front f × (ts ≡ front ++ rest)
unfolding whole_at
whole_found n ts f rest e = whole_with_found (prefix_at n) (prefix_at_found n) ts f rest e

pub iff_found : (n : ℕ) (ts : List TokenForm) (f : RawTree) (rest : List TokenForm) → iff_at n ts ≡ Ok (f, rest) → (front : List TokenForm) × SpellsFormula iff_level front f × (ts ≡ front ++ rest)
unfolding iff_at
iff_found n ts f rest e = iff_with_found (prefix_at n) (prefix_at_found n) ts f rest e

-- ---- what is spelled at the front is read, before tokens that do not go on with it

pub whole_read : (n : ℕ) (front : List TokenForm) (f : RawTree) (rest : List TokenForm) → SpellsFormula whole_level front f → length (front ++ rest) ≤ n → ends_whole rest ≡ true → whole_at n (front ++ rest) ≡ Ok (f, rest)
unfolding whole_at
whole_read n front f rest s h e = spelled_read s n rest h e

pub iff_read : (n : ℕ) (front : List TokenForm) (f : RawTree) (rest : List TokenForm) → SpellsFormula iff_level front f → length (front ++ rest) ≤ n → ends_iff rest ≡ true → iff_at n (front ++ rest) ≡ Ok (f, rest)
unfolding iff_at
iff_read n front f rest s h e = spelled_read s n rest h e

-- no tokens spell two formulas
pub one_reading : (ts : List TokenForm) (f g : RawTree) → SpellsFormula whole_level ts f → SpellsFormula whole_level ts g → f ≡ g
one_reading ts f g s t =
    let enough : length (ts ++ []) ≤ length ts = omega (arith, ap length (append-nil ts)) in
    (ok_parts f g [] [] (sym (whole_read (length ts) ts f [] s enough refl) ∙ whole_read (length ts) ts g [] t enough refl)).0

some_front : (ts us : List TokenForm) → 0 < length ts → 0 < length (ts ++ us)
some_front ts us h = omega (arith, length-append ts us)

-- no formula is spelled by no tokens
pub some_token : {l : Level} {ts : List TokenForm} {f : RawTree} → SpellsFormula l ts f → 0 < length ts
some_token a_truth = omega arith
some_token a_falsity = omega arith
some_token (in_parentheses s) = omega arith
some_token (a_flag x) = omega arith
some_token (a_comparison x m r is s) = omega arith
some_token (a_flag_of f x) = omega arith
some_token (a_comparison_of f x m r is s) = omega arith
some_token (a_choice_of f x s) = omega arith
some_token (a_universal x e s) = omega arith
some_token (an_existential x e s) = omega arith
some_token (a_choice x s) = omega arith
some_token (a_primary s) = some_token s
some_token (a_negation s) = omega arith
some_token (a_next s) = omega arith
some_token (an_eventually s) = omega arith
some_token (an_always s) = omega arith
some_token (an_eventually_within b d s) = omega arith
some_token (an_always_within b d s) = omega arith
some_token (a_prefix s) = some_token s
some_token (an_until {ts} s t) = some_front ts _ (some_token s)
some_token (an_unless {ts} s t) = some_front ts _ (some_token s)
some_token (a_release {ts} s t) = some_front ts _ (some_token s)
some_token (an_until_within b d {ts} s t) = some_front ts _ (some_token s)
some_token (an_unless_within b d {ts} s t) = some_front ts _ (some_token s)
some_token (a_release_within b d {ts} s t) = some_front ts _ (some_token s)
some_token (a_tempo s) = some_token s
some_token (a_conjunction {ts} s t) = some_front ts _ (some_token s)
some_token (a_conjunct s) = some_token s
some_token (a_disjunction {ts} s t) = some_front ts _ (some_token s)
some_token (a_disjunct s) = some_token s
some_token (an_implication {ts} s t) = some_front ts _ (some_token s)
some_token (a_side s) = some_token s
some_token (an_equivalence {ts} s t) = some_front ts _ (some_token s)
some_token (a_whole s) = some_token s
some_token (an_entailment {ts} s t) = some_front ts _ (some_token s)
