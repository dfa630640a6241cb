-- A formula is written in parentheses exactly where its own rule is weaker than its place asks.
use Rattle.std.proofs.Common.{◌≡◌, ℕ, ◌<◌, ◌≤◌, true, false, List, [], ◌∷◌, ◌++◌, refl, sym, ◌∙◌, arith}
use Rattle.std.specs.Prelude.{nat_le}
use Rattle.model_tokens.specs.declared.token.Sign.TheVariants.{OpenParenthesis, CloseParenthesis}
use Rattle.model_tokens.specs.Tokens.{TokenForm, mark}
use Rattle.model_text.specs.RawTrees.{RawTree, truth, falsity, bare, compares, among, bare_of, compares_of, among_of, neg, next, eventually, always, eventually_within, always_within, conj, disj, implies, iff, entails, until, unless, release, until_within, unless_within, release_within, for_all, for_some}
use Rattle.model_text.specs.FormulaGrammar.{Level, whole_level, iff_level, implies_level, or_level, and_level, tempo_level, prefix_level, primary_level}
use Rattle.model_text.specs.Writing.{tightness, enclosed, formula_tokens}
use Rattle.model_text.specs.Lines.{own_level}

primary_is_tight : (asked : Level) (ts : List TokenForm) → enclosed asked primary_level ts ≡ ts
primary_is_tight whole_level ts = refl
primary_is_tight iff_level ts = refl
primary_is_tight implies_level ts = refl
primary_is_tight or_level ts = refl
primary_is_tight and_level ts = refl
primary_is_tight tempo_level ts = refl
primary_is_tight prefix_level ts = refl
primary_is_tight primary_level ts = refl

-- what is written at a place is what is written with no place, enclosed
pub at_place : (asked : Level) (f : RawTree) → formula_tokens asked f ≡ enclosed asked (own_level f) (formula_tokens (own_level f) f)
unfolding formula_tokens
at_place asked truth = sym (primary_is_tight asked _)
at_place asked falsity = sym (primary_is_tight asked _)
at_place asked (bare x) = sym (primary_is_tight asked _)
at_place asked (compares x r v) = sym (primary_is_tight asked _)
at_place asked (among x vs) = sym (primary_is_tight asked _)
at_place asked (bare_of f x) = sym (primary_is_tight asked _)
at_place asked (compares_of f x r v) = sym (primary_is_tight asked _)
at_place asked (among_of f x vs) = sym (primary_is_tight asked _)
at_place asked (for_all x e a) = refl
at_place asked (for_some x e a) = refl
at_place asked (neg a) = refl
at_place asked (next a) = refl
at_place asked (eventually a) = refl
at_place asked (always a) = refl
at_place asked (eventually_within d a) = refl
at_place asked (always_within d a) = refl
at_place asked (conj a b) = refl
at_place asked (disj a b) = refl
at_place asked (implies a b) = refl
at_place asked (iff a b) = refl
at_place asked (entails a b) = refl
at_place asked (until a b) = refl
at_place asked (unless a b) = refl
at_place asked (release a b) = refl
at_place asked (until_within d a b) = refl
at_place asked (unless_within d a b) = refl
at_place asked (release_within d a b) = refl

pub tight_enough : (asked : Level) (f : RawTree) → tightness asked ≤ tightness (own_level f) → formula_tokens asked f ≡ formula_tokens (own_level f) f
tight_enough asked f h = at_place asked f ∙ rw (nat_le_true (tightness asked) (tightness (own_level f)) h) refl
  where
    nat_le_true : (m n : ℕ) → m ≤ n → nat_le m n ≡ true
    nat_le_true m n l = grind arith

pub too_loose : (asked : Level) (f : RawTree) → tightness (own_level f) < tightness asked → formula_tokens asked f ≡ mark OpenParenthesis ∷ formula_tokens (own_level f) f ++ mark CloseParenthesis ∷ []
too_loose asked f h = at_place asked f ∙ rw (nat_le_false (tightness asked) (tightness (own_level f)) h) refl
  where
    nat_le_false : (m n : ℕ) → n < m → nat_le m n ≡ false
    nat_le_false m n l = grind arith
