-- A core brings all that stands in it, no more than it has nodes, and nothing when it comes again.
use Rattle.std.proofs.Common.{◌≡◌, ℕ, ◌+◌, ◌≤◌, inl, inr, List, length, refl, sym, ap, ◌∙◌, subst, arith}
use Rattle.bound_unfolding.specs.CoreForm.{CoreForm, core_true, core_false, lit, both, either, after, core_until, core_release, nodes}
use Rattle.formula_table.specs.Closures.{number_in, with_formula, with_core}
use Rattle.formula_table.specs.Distinct.{IsMember}
use Rattle.formula_table.specs.Tables.{IsKept, IsSubformula}
use Rattle.formula_table.proofs.Members.{member_where, number_known, number_below}
use Rattle.formula_table.proofs.Puts.{with_kept, with_self, with_known, with_size}
use Rattle.formula_table.proofs.Cores.{kept_then, core_kept}

-- ---- what stands in a core is there
pub member_kept : (old new : List CoreForm) → IsKept old new → (c : CoreForm) → IsMember old c → IsMember new c
member_kept old new kept c m =
    let l = number_below old c m in
    member_where new c (number_in old c) (omega (arith, l, kept.0)) (kept.1 (number_in old c) l ∙ number_known old c m)

member_is : (c d : CoreForm) (mid : List CoreForm) → d ≡ c → IsMember (with_formula c mid) d
member_is c d mid e = subst (IsMember (with_formula c mid)) (sym e) (with_self mid c)

module _ (f a b : CoreForm) (cl : List CoreForm) (d : CoreForm) where
  first_stays : IsMember (with_core a cl) d → IsMember (with_formula f (with_core b (with_core a cl))) d
  first_stays =
      let one = with_core a cl in
      let two = with_core b one in
      member_kept one (with_formula f two) (kept_then one two (with_formula f two) (core_kept b one) (with_kept two f)) d

  second_stays : IsMember (with_core b (with_core a cl)) d → IsMember (with_formula f (with_core b (with_core a cl))) d
  second_stays =
      let two = with_core b (with_core a cl) in
      member_kept two (with_formula f two) (with_kept two f) d

pub core_members : (c : CoreForm) (cl : List CoreForm) (d : CoreForm) → IsSubformula d c → IsMember (with_core c cl) d
core_members core_true cl d h = member_is core_true d cl h
core_members core_false cl d h = member_is core_false d cl h
core_members (lit x s) cl d h = member_is (lit x s) d cl h
core_members (both a b) cl d h = elim h [
  | inl e ↦ member_is (both a b) d (with_core b (with_core a cl)) e
  | inr s ↦ elim s [ inl p ↦ first_stays (both a b) a b cl d (core_members a cl d p) | inr q ↦ second_stays (both a b) a b cl d (core_members b (with_core a cl) d q) ]
]
core_members (either a b) cl d h = elim h [
  | inl e ↦ member_is (either a b) d (with_core b (with_core a cl)) e
  | inr s ↦ elim s [ inl p ↦ first_stays (either a b) a b cl d (core_members a cl d p) | inr q ↦ second_stays (either a b) a b cl d (core_members b (with_core a cl) d q) ]
]
core_members (after a) cl d h = elim h [
  | inl e ↦ member_is (after a) d (with_core a cl) e
  | inr p ↦ member_kept (with_core a cl) (with_formula (after a) (with_core a cl)) (with_kept (with_core a cl) (after a)) d (core_members a cl d p)
]
core_members (core_until a b) cl d h = elim h [
  | inl e ↦ member_is (core_until a b) d (with_core b (with_core a cl)) e
  | inr s ↦ elim s [ inl p ↦ first_stays (core_until a b) a b cl d (core_members a cl d p) | inr q ↦ second_stays (core_until a b) a b cl d (core_members b (with_core a cl) d q) ]
]
core_members (core_release a b) cl d h = elim h [
  | inl e ↦ member_is (core_release a b) d (with_core b (with_core a cl)) e
  | inr s ↦ elim s [ inl p ↦ first_stays (core_release a b) a b cl d (core_members a cl d p) | inr q ↦ second_stays (core_release a b) a b cl d (core_members b (with_core a cl) d q) ]
]

-- ---- it brings no more than it has nodes
size_two : (f a b : CoreForm) (cl : List CoreForm) (n m : ℕ) → length (with_core a cl) ≤ length cl + n → length (with_core b (with_core a cl)) ≤ length (with_core a cl) + m
    → length (with_formula f (with_core b (with_core a cl))) ≤ length cl + (1 + n + m)
size_two f a b cl n m p q = let s = with_size (with_core b (with_core a cl)) f in omega (arith, p, q, s)

pub core_size : (c : CoreForm) (cl : List CoreForm) → length (with_core c cl) ≤ length cl + nodes c
core_size core_true cl = with_size cl core_true
core_size core_false cl = with_size cl core_false
core_size (lit x s) cl = with_size cl (lit x s)
core_size (both a b) cl = size_two (both a b) a b cl (nodes a) (nodes b) (core_size a cl) (core_size b (with_core a cl))
core_size (either a b) cl = size_two (either a b) a b cl (nodes a) (nodes b) (core_size a cl) (core_size b (with_core a cl))
core_size (after a) cl = let h = core_size a cl in let s = with_size (with_core a cl) (after a) in omega (arith, h, s)
core_size (core_until a b) cl = size_two (core_until a b) a b cl (nodes a) (nodes b) (core_size a cl) (core_size b (with_core a cl))
core_size (core_release a b) cl = size_two (core_release a b) a b cl (nodes a) (nodes b) (core_size a cl) (core_size b (with_core a cl))

-- ---- it brings nothing where all that stands in it is there
known_two : (f a b : CoreForm) (cl : List CoreForm) → with_core a cl ≡ cl → with_core b cl ≡ cl → IsMember cl f → with_formula f (with_core b (with_core a cl)) ≡ cl
known_two f a b cl p q m = ap (λ z. with_formula f (with_core b z)) p ∙ ap (with_formula f) q ∙ with_known cl f m

pub core_known : (c : CoreForm) (cl : List CoreForm) → ((d : CoreForm) → IsSubformula d c → IsMember cl d) → with_core c cl ≡ cl
core_known core_true cl h = with_known cl core_true (h core_true refl)
core_known core_false cl h = with_known cl core_false (h core_false refl)
core_known (lit x s) cl h = with_known cl (lit x s) (h (lit x s) refl)
core_known (both a b) cl h = known_two (both a b) a b cl (core_known a cl (λ d p. h d (inr (inl p)))) (core_known b cl (λ d p. h d (inr (inr p)))) (h (both a b) (inl refl))
core_known (either a b) cl h = known_two (either a b) a b cl (core_known a cl (λ d p. h d (inr (inl p)))) (core_known b cl (λ d p. h d (inr (inr p)))) (h (either a b) (inl refl))
core_known (after a) cl h = ap (with_formula (after a)) (core_known a cl (λ d p. h d (inr p))) ∙ with_known cl (after a) (h (after a) (inl refl))
core_known (core_until a b) cl h = known_two (core_until a b) a b cl (core_known a cl (λ d p. h d (inr (inl p)))) (core_known b cl (λ d p. h d (inr (inr p)))) (h (core_until a b) (inl refl))
core_known (core_release a b) cl h = known_two (core_release a b) a b cl (core_known a cl (λ d p. h d (inr (inl p)))) (core_known b cl (λ d p. h d (inr (inr p)))) (h (core_release a b) (inl refl))

pub core_again : (c : CoreForm) (cl : List CoreForm) → with_core c (with_core c cl) ≡ with_core c cl
core_again c cl = core_known c (with_core c cl) (core_members c cl)
