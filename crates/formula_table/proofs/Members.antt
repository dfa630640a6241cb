-- Equal cores, and the members and numbers of a closure.
use Rattle.std.proofs.Common.{◌≡◌, ◌↔◌, ℕ, zero, suc, ◌<◌, Bool, true, false, List, [], ◌∷◌, ◌++◌, ◌==◌, IsTrue, IsFalse, refl, inl, inr, sym, ap, ap₂, subst, ◌∙◌, true≢false, length, arith}
use Rattle.std.specs.Prelude.{Contains, slice_index_or}
use Rattle.std.specs.List.{list_any}
use Rattle.std.proofs.lemmas.Map.Views.{Contains-from_any}
use Rattle.bound_unfolding.specs.CoreForm.{CoreForm, core_true, core_false, lit, both, either, after, core_until, core_release}
use Rattle.formula_table.specs.Closures.{is_same, formula_at, number_in}
use Rattle.formula_table.specs.Distinct.{IsMember, IsDistinct}
use Rattle.formula_table.proofs.Tests.{cond_case, or_left, or_right, or_true, or_false, and_intro, and_true, eq_of, eq_self}

-- ---- equal cores
pub same_eq : (a b : CoreForm) → IsTrue (is_same a b) → a ≡ b
same_eq core_true core_true h = refl
same_eq core_false core_false h = refl
same_eq (lit x s) (lit y u) h = let r = and_true (x == y) _ h in ap₂ lit (eq_of x y r.0) (eq_of s u r.1)
same_eq (both a b) (both c d) h = let r = and_true (is_same a c) _ h in ap₂ both (same_eq a c r.0) (same_eq b d r.1)
same_eq (either a b) (either c d) h = let r = and_true (is_same a c) _ h in ap₂ either (same_eq a c r.0) (same_eq b d r.1)
same_eq (after a) (after c) h = ap after (same_eq a c h)
same_eq (core_until a b) (core_until c d) h = let r = and_true (is_same a c) _ h in ap₂ core_until (same_eq a c r.0) (same_eq b d r.1)
same_eq (core_release a b) (core_release c d) h = let r = and_true (is_same a c) _ h in ap₂ core_release (same_eq a c r.0) (same_eq b d r.1)
same_eq _ _ h = absurd (true≢false (sym h))

pub same_self : (a : CoreForm) → IsTrue (is_same a a)
same_self core_true = refl
same_self core_false = refl
same_self (lit x s) = and_intro (x == x) _ (eq_self x) (eq_self s)
same_self (both a b) = and_intro (is_same a a) _ (same_self a) (same_self b)
same_self (either a b) = and_intro (is_same a a) _ (same_self a) (same_self b)
same_self (after a) = same_self a
same_self (core_until a b) = and_intro (is_same a a) _ (same_self a) (same_self b)
same_self (core_release a b) = and_intro (is_same a a) _ (same_self a) (same_self b)

-- ---- what is at a number stays there as more comes
pub at_more : (cl ds : List CoreForm) (k : ℕ) → k < length cl → formula_at (cl ++ ds) k ≡ formula_at cl k
at_more [] ds k l = absurd (omega arith)
at_more (c ∷ cl) ds zero l = refl
at_more (c ∷ cl) ds (suc k) l = at_more cl ds k (omega arith)

pub at_last : (cl : List CoreForm) (c : CoreForm) → formula_at (cl ++ c ∷ []) (length cl) ≡ c
at_last [] c = refl
at_last (d ∷ cl) c = at_last cl c

-- ---- members
pub member_at : (cl : List CoreForm) (n : ℕ) → n < length cl → IsMember cl (formula_at cl n)
member_at [] n l = absurd (omega arith)
member_at (d ∷ ds) zero l = or_left (is_same d d) _ (same_self d)
member_at (d ∷ ds) (suc n) l = or_right (is_same (formula_at ds n) d) _ (member_at ds n (omega arith))

pub contained : (cl : List CoreForm) (c : CoreForm) → IsMember cl c → Contains cl c
contained cl c h = Contains-from_any same_eq c cl h

pub member_where : (cl : List CoreForm) (c : CoreForm) (k : ℕ) → k < length cl → formula_at cl k ≡ c → IsMember cl c
member_where cl c k l e = subst (IsMember cl) e (member_at cl k l)

-- a formula is not in a closure where the test says so
member_of_contained : (cl : List CoreForm) (c : CoreForm) (k : ℕ) → k < length cl → slice_index_or cl k c ≡ c → IsMember cl c
member_of_contained [] c k l e = absurd (omega arith)
member_of_contained (d ∷ ds) c zero l e = or_left (is_same c d) _ (subst (λ z. IsTrue (is_same c z)) (sym e) (same_self c))
member_of_contained (d ∷ ds) c (suc k) l e = or_right (is_same c d) _ (member_of_contained ds c k (omega arith) e)

not_contained : (cl : List CoreForm) (c : CoreForm) → IsFalse (list_any (is_same c) cl) → ¬ (Contains cl c)
not_contained cl c f h = true≢false (sym (member_of_contained cl c h.0 h.1 h.2) ∙ f)

-- a closure of so many formulas is full for one that is not there
pub full_for : (limit : ℕ) (cl : List CoreForm) (c : CoreForm) (b : Bool) → length cl ≡ limit → b ≡ list_any (is_same c) cl → IsFalse b ↔ ((length cl ≡ limit) × ¬ (Contains cl c))
full_for limit cl c b l e = (λ f. (l, not_contained cl c (sym e ∙ f)), λ h. go b refl h.1)
  where
    go : (x : Bool) → b ≡ x → ¬ (Contains cl c) → IsFalse b
    go true p n = absurd (n (contained cl c (sym e ∙ p)))
    go false p n = p

-- where it is not full, a formula that finds that many is there
pub member_if_full : (limit : ℕ) (cl : List CoreForm) (c : CoreForm) → ¬ ((length cl ≡ limit) × ¬ (Contains cl c)) → length cl ≡ limit → IsMember cl c
member_if_full limit cl c h l = go (list_any (is_same c) cl) refl
  where
    go : (x : Bool) → list_any (is_same c) cl ≡ x → IsMember cl c
    go true p = p
    go false p = absurd (h (l, not_contained cl c p))

-- ---- numbers
pub number_known : (cl : List CoreForm) (c : CoreForm) → IsMember cl c → formula_at cl (number_in cl c) ≡ c
number_known [] c h = absurd (true≢false (sym h))
number_known (d ∷ ds) c h =
    cond_case (λ p. formula_at (d ∷ ds) p ≡ c) (is_same c d) _ _ (λ e. sym (same_eq c d e))
    (λ f. elim (or_true (is_same c d) _ h) [ inl e ↦ absurd (true≢false (sym e ∙ f)) | inr m ↦ number_known ds c m ])

pub number_below : (cl : List CoreForm) (c : CoreForm) → IsMember cl c → number_in cl c < length cl
number_below [] c h = absurd (true≢false (sym h))
number_below (d ∷ ds) c h =
    cond_case (λ p. p < length (d ∷ ds)) (is_same c d) _ _ (λ e. omega arith)
    (λ f. elim (or_true (is_same c d) _ h) [
      | inl e ↦ absurd (true≢false (sym e ∙ f))
      | inr m ↦ let l = number_below ds c m in omega (arith, l)
    ])

pub number_absent : (cl : List CoreForm) (c : CoreForm) → IsFalse (list_any (is_same c) cl) → number_in cl c ≡ length cl
number_absent [] c h = refl
number_absent (d ∷ ds) c h =
    cond_case (λ p. p ≡ length (d ∷ ds)) (is_same c d) _ _ (λ e. absurd (true≢false (sym (or_left (is_same c d) _ e) ∙ h)))
    (λ f. ap suc (number_absent ds c (or_false (is_same c d) _ h)))

-- a formula behind others has the number of their count
pub number_last : (cl : List CoreForm) (c : CoreForm) → IsFalse (list_any (is_same c) cl) → number_in (cl ++ c ∷ []) c ≡ length cl
number_last [] c h = cond_case (λ p. p ≡ 0) (is_same c c) _ _ (λ e. refl) (λ f. absurd (true≢false (sym (same_self c) ∙ f)))
number_last (d ∷ ds) c h =
    cond_case (λ p. p ≡ length (d ∷ ds)) (is_same c d) _ _ (λ e. absurd (true≢false (sym (or_left (is_same c d) _ e) ∙ h)))
    (λ f. ap suc (number_last ds c (or_false (is_same c d) _ h)))

-- ---- no formula twice
pub at_distinct : (cl : List CoreForm) → IsDistinct cl → (a b : ℕ) → a < length cl → b < length cl → formula_at cl a ≡ formula_at cl b → a ≡ b
at_distinct [] o a b l m e = absurd (omega arith)
at_distinct (d ∷ ds) o zero zero l m e = refl
at_distinct (d ∷ ds) o zero (suc b) l m e = absurd (o.0 (member_where ds d b (omega arith) (sym e)))
at_distinct (d ∷ ds) o (suc a) zero l m e = absurd (o.0 (member_where ds d a (omega arith) e))
at_distinct (d ∷ ds) o (suc a) (suc b) l m e = ap suc (at_distinct ds o.1 a b (omega arith) (omega arith) e)

pub distinct_last : (cl : List CoreForm) (c : CoreForm) → ¬ (IsMember cl c) → IsDistinct cl → IsDistinct (cl ++ c ∷ [])
distinct_last [] c ne o = ((λ h. true≢false (sym h)), tt)
distinct_last (d ∷ ds) c ne o = ((λ h. go ds h o.0), distinct_last ds c (λ m. ne (or_right (is_same c d) _ m)) o.1)
  where
    go : (ds : List CoreForm) → IsMember (ds ++ c ∷ []) d → ¬ (IsMember ds d) → ⊥
    go [] h k = elim (or_true (is_same d c) _ h) [
      | inl e ↦ ne (or_left (is_same c d) _ (subst (λ z. IsTrue (is_same c z)) (sym (same_eq d c e)) (same_self c)))
      | inr m ↦ true≢false (sym m)
    ]
    go (x ∷ xs) h k = elim (or_true (is_same d x) _ h) [
      | inl e ↦ k (or_left (is_same d x) _ e)
      | inr m ↦ go xs m (λ z. k (or_right (is_same d x) _ z))
    ]
