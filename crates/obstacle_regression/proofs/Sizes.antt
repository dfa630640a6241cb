-- What fingerprints and sizes tell of cores.
use Rattle.std.proofs.Common.{◌≡◌, ℕ, Bool, true, false, IsTrue, Option, Some, None, nat_eq, sym, ap, ◌∙◌, subst, refl, ⊎_elim}
use Rattle.std.specs.Prelude.{not}
use Rattle.std.proofs.lemmas.Bool.{false≢true, false_from_ne_true, or_cases, eqb-true}
use Rattle.bound_unfolding.specs.CoreForm.{CoreForm, core_true, core_false, lit, both, either, after, core_until, core_release}
use Rattle.bound_unfolding.specs.CoreView.{core_tree_of}
use Rattle.bound_unfolding.specs.declared.core_form.Core.{Core}
use Rattle.formula_table.specs.Closures.{is_same}
use Rattle.formula_table.proofs.Members.{same_eq, same_self}
use Rattle.obstacle_regression.specs.Fingerprints.{fingerprint}
use Rattle.obstacle_regression.specs.Replacements.{is_inside, gives}
use Rattle.obstacle_regression.specs.Candidates.{is_small}
use Rattle.obstacle_regression.specs.Sides.{is_built}

-- cores of two fingerprints are two
pub apart : (p q : ℕ) (a b : CoreForm) → p ≡ fingerprint a → q ≡ fingerprint b → (p ≡ q → ⊥) → nat_eq p q ≡ is_same a b
apart p q a b is_p is_q other =
    false_from_ne_true (nat_eq p q) (λ e. other (eqb-true p q e))
    ∙ sym (false_from_ne_true (is_same a b) (λ s. other (is_p ∙ ap fingerprint (same_eq a b s) ∙ sym is_q)))

-- ---- the core of a side of a rule
pub built_is : (o : Option Core) (core : Core) (c : CoreForm) → o ≡ Some core → IsTrue (is_built o c) → core_tree_of core ≡ c
built_is o core c e built = same_eq (core_tree_of core) c (subst (λ z. IsTrue (is_built z c)) e built)

not_false : (b : Bool) → IsTrue (not b) → b ≡ false
not_false true e = absurd (false≢true e)
not_false false e = refl

pub unbuilt_is_large : (o : Option Core) (c : CoreForm) → o ≡ None → IsTrue (is_built o c) → is_small 0 c ≡ false
unbuilt_is_large o c e built = not_false (is_small 0 c) (subst (λ z. IsTrue (is_built z c)) e built)

inside_is_small : (c l : CoreForm) → is_inside c l ≡ true → is_small 0 c ≡ true
inside_is_small core_true l e = absurd (false≢true e)
inside_is_small core_false l e = absurd (false≢true e)
inside_is_small (lit x s) l e = refl
inside_is_small (both a b) l e = absurd (false≢true e)
inside_is_small (either a b) l e = absurd (false≢true e)
inside_is_small (after a) l e = absurd (false≢true e)
inside_is_small (core_until a b) l e = absurd (false≢true e)
inside_is_small (core_release a b) l e = absurd (false≢true e)

-- what is too large gives nothing that is small
pub large_gives : (c l : CoreForm) → is_small 0 c ≡ false → is_small 0 l ≡ true → gives c l ≡ false
large_gives c l large small =
    false_from_ne_true (gives c l)
    (λ g. ⊎_elim (λ s. false≢true (sym large ∙ ap (is_small 0) (same_eq c l s) ∙ small)) (λ i. false≢true (sym large ∙ inside_is_small c l i)) (or_cases (is_same c l) (is_inside c l) g))

pub some_built : (o : Option Core) (core : Core) (c : CoreForm) → o ≡ Some core → core_tree_of core ≡ c → IsTrue (is_built o c)
some_built o core c e is = subst (λ z. IsTrue (is_built z c)) (sym e) (subst (λ z. IsTrue (is_same z c)) (sym is) (same_self c))

pub none_built : (o : Option Core) (c : CoreForm) → o ≡ None → is_small 0 c ≡ false → IsTrue (is_built o c)
none_built o c e large = subst (λ z. IsTrue (is_built z c)) (sym e) (ap not large)
