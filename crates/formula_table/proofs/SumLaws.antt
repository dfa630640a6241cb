-- Sums of terms: the terms come first to last, and then the sums from the last one up.
use Rattle.std.proofs.Common.{◌≡◌, List, refl, sym, subst}
use Rattle.std.specs.Prelude.{Option, Some, None, Result, Ok, Err, IsErrAnd}
use Rattle.bound_unfolding.specs.CoreForm.{CoreForm, core_false, either}
use Rattle.bound_unfolding.specs.CoreTree.{term_before}
use Rattle.formula_table.specs.declared.shape.FormulaId.{FormulaId}
use Rattle.formula_table.specs.declared.table.PutRefusal.{PutRefusal}
use Rattle.formula_table.specs.Closures.{with_core}
use Rattle.formula_table.specs.CorePuts.{IsCorePut, IsSumPut}
use Rattle.formula_table.specs.Tables.{IsKept}
use Rattle.formula_table.proofs.Cores.{kept_self}
use Rattle.formula_table.proofs.CorePuts.{refused, handed_on, first_kept, refused_second, then_both}

-- a sum with a term in front of terms
with_rest : (term rest : CoreForm) → ¬ (rest ≡ core_false) → either term rest ≡ term_before term rest
with_rest term core_false n = absurd (n refl)
with_rest term rest n = refl

-- what the first term brings stays
term_first : (term rest : CoreForm) (cl : List CoreForm) → IsKept (with_core term cl) (with_core (term_before term rest) cl)
term_first term core_false cl = kept_self (with_core term cl)
term_first term rest cl = first_kept (either term rest) term rest (λ z. refl) cl

-- a sum with a term in front has a term
term_there : (term rest : CoreForm) → ¬ (term ≡ core_false) → ¬ (term_before term rest ≡ core_false)
term_there term core_false n h = n h
term_there term rest n h = cc

module _ (term rest : CoreForm) (there : ¬ (term ≡ core_false)) where
  module _ (old new : List CoreForm) (r : Result (Option FormulaId) PutRefusal) (e : PutRefusal) (gave : IsErrAnd r (λ x. x ≡ e)) where
    -- a refusal at the first term
    pub term_refused : IsCorePut term old new (Err e) → IsSumPut (term_before term rest) old new r
    term_refused p = handed_on (IsSumPut (term_before term rest) old new) r e gave (term_there term rest there, refused term (term_before term rest) old old new e (kept_self old) (term_first term rest old) p)

    -- a refusal where there are later terms
    more_refused : ¬ (rest ≡ core_false) → IsCorePut (either term rest) old new (Err e) → IsSumPut (term_before term rest) old new r
    more_refused n p = handed_on (IsSumPut (term_before term rest) old new) r e gave (term_there term rest there, subst (λ z. IsCorePut z old new (Err e)) (with_rest term rest n) p)

    -- a refusal at a later one
    pub rest_refused : (one : List CoreForm) (i : FormulaId) → IsCorePut term old one (Ok i) → IsSumPut rest one new (Err e) → IsSumPut (term_before term rest) old new r
    rest_refused one i p s = more_refused s.0 (refused_second (either term rest) term rest (λ z. refl) (Err e) e refl old one new i p s.1)

    -- a refusal at the sum itself
    pub sum_refused : (one two : List CoreForm) (i j : FormulaId) → IsCorePut term old one (Ok i) → IsSumPut rest one two (Ok (Some j)) → IsCorePut (either term rest) two new (Err e) → IsSumPut (term_before term rest) old new r
    sum_refused one two i j p s q = more_refused s.0 (then_both (either term rest) term rest (λ z. refl) old one two new i j (Err e) p s.1 q)

  module _ (old one two : List CoreForm) (i : FormulaId) (p : IsCorePut term old one (Ok i)) where
    -- a term with none behind it
    pub term_alone : IsSumPut rest one two (Ok None) → IsSumPut (term_before term rest) old two (Ok (Some i))
    term_alone s = subst (λ z. IsSumPut (term_before term z) old two (Ok (Some i))) (sym s.0) (there, subst (λ z. IsCorePut term old z (Ok i)) (sym s.1) p)

    -- a term and a sum behind it
    pub sum_put : (new : List CoreForm) (j k : FormulaId) → IsSumPut rest one two (Ok (Some j)) → IsCorePut (either term rest) two new (Ok k) → IsSumPut (term_before term rest) old new (Ok (Some k))
    sum_put new j k s q = (term_there term rest there, subst (λ z. IsCorePut z old new (Ok k)) (with_rest term rest s.0) (then_both (either term rest) term rest (λ z. refl) old one two new i j (Ok k) p s.1 q))
