-- A core is true where one is that has a stronger core in place of one of its subformulas.
use Rattle.std.proofs.Common.{ℕ, ◌+◌, inl, inr, ⊎_elim, sym, subst}
use Rattle.temporal_logic.specs.Truth.{Trace, HoldsUntil, Releases}
use Rattle.bound_unfolding.specs.CoreForm.{CoreForm, core_true, core_false, lit, both, either, after, core_until, core_release, CoreTruth}
use Rattle.formula_table.specs.Closures.{is_same}
use Rattle.formula_table.proofs.Tests.{cond_case}
use Rattle.formula_table.proofs.Members.{same_eq}
use Rattle.obstacle_regression.specs.Replacements.{exchanged, replaced}

until_weaker : (P Q R S : ℕ → Type 0) → ((j : ℕ) → P j → R j) → ((j : ℕ) → Q j → S j) → (i : ℕ) → HoldsUntil P Q i → HoldsUntil R S i
until_weaker P Q R S f g i w = (w.0, w.1, (g w.0 w.2.0, λ k o s. f k (w.2.1 k o s)))

releases_weaker : (P Q R S : ℕ → Type 0) → ((j : ℕ) → P j → R j) → ((j : ℕ) → Q j → S j) → (i : ℕ) → Releases P Q i → Releases R S i
releases_weaker P Q R S f g i r j o = ⊎_elim (λ q. inl (g j q)) (λ w. inr (w.0, w.1, w.2, f w.0 w.3)) (r j o)

module _ (t : Trace) (l k : CoreForm) (stronger : (i : ℕ) → CoreTruth t k i → CoreTruth t l i) where
  exchanged_true : (c other : CoreForm) (i : ℕ) → (CoreTruth t other i → CoreTruth t c i) → CoreTruth t (exchanged l k c other) i → CoreTruth t c i
  exchanged_true c other i f =
      cond_case (λ z. CoreTruth t z i → CoreTruth t c i) (is_same c l) k other
      (λ s h. subst (λ z. CoreTruth t z i) (sym (same_eq c l s)) (stronger i h))
      (λ n h. f h)

  pub replaced_true : (c : CoreForm) (i : ℕ) → CoreTruth t (replaced l k c) i → CoreTruth t c i
  replaced_true core_true i = exchanged_true core_true core_true i (λ h. h)
  replaced_true core_false i = exchanged_true core_false core_false i (λ h. h)
  replaced_true (lit x s) i = exchanged_true (lit x s) (lit x s) i (λ h. h)
  replaced_true (both a b) i =
      exchanged_true (both a b) (both (replaced l k a) (replaced l k b)) i (λ h. (replaced_true a i h.0, replaced_true b i h.1))
  replaced_true (either a b) i =
      exchanged_true (either a b) (either (replaced l k a) (replaced l k b)) i (⊎_elim (λ h. inl (replaced_true a i h)) (λ h. inr (replaced_true b i h)))
  replaced_true (after a) i = exchanged_true (after a) (after (replaced l k a)) i (replaced_true a (i + 1))
  replaced_true (core_until a b) i =
      exchanged_true (core_until a b) (core_until (replaced l k a) (replaced l k b)) i
      (until_weaker (CoreTruth t (replaced l k a)) (CoreTruth t (replaced l k b)) (CoreTruth t a) (CoreTruth t b) (replaced_true a) (replaced_true b) i)
  replaced_true (core_release a b) i =
      exchanged_true (core_release a b) (core_release (replaced l k a) (replaced l k b)) i
      (releases_weaker (CoreTruth t (replaced l k a)) (CoreTruth t (replaced l k b)) (CoreTruth t a) (CoreTruth t b) (replaced_true a) (replaced_true b) i)
