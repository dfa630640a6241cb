-- What a core does to a closure: it stays, and what comes behind it stands in the core.
use Rattle.std.proofs.Common.{◌≡◌, ℕ, ◌<◌, inl, inr, List, [], ◌∷◌, length, refl, sym, ◌∙◌, subst, arith}
use Rattle.std.specs.Prelude.{Contains}
use Rattle.std.proofs.lemmas.Bool.{cases_lt}
use Rattle.bound_unfolding.specs.CoreForm.{CoreForm, core_true, core_false, lit, both, either, after, core_until, core_release}
use Rattle.formula_table.specs.Closures.{formula_at, with_formula, with_core, with_cores}
use Rattle.formula_table.specs.Tables.{with_operands, IsKept, AddsOnly, IsSubformula}
use Rattle.formula_table.proofs.Puts.{with_kept, with_only, with_over}

-- ---- one closure after another
pub kept_self : (cl : List CoreForm) → IsKept cl cl
kept_self cl = (omega arith, λ k l. refl)

pub kept_then : (old mid new : List CoreForm) → IsKept old mid → IsKept mid new → IsKept old new
kept_then old mid new p q = (omega (arith, p.0, q.0), λ k l. q.1 k (omega (arith, l, p.0)) ∙ p.1 k l)

-- what comes first and what comes then has a property
adds_then : (P : CoreForm → Type 0) (old mid new : List CoreForm) → IsKept mid new → AddsOnly P old mid → AddsOnly P mid new → AddsOnly P old new
adds_then P old mid new kept first then k l h = elim (cases_lt k (length mid)) [
  | inl b ↦ subst P (sym (kept.1 k b)) (first k l b)
  | inr n ↦ then k n h
]

adds_as : (P R : CoreForm → Type 0) (old new : List CoreForm) → ((c : CoreForm) → P c → R c) → AddsOnly P old new → AddsOnly R old new
adds_as P R old new f only k l h = f (formula_at new k) (only k l h)

-- what is added to a part of a closure is added to it
pub part_only : (P : CoreForm → Type 0) (old part whole : List CoreForm) → IsKept part whole → AddsOnly P old whole → AddsOnly P old part
part_only P old part whole kept only k l h = subst P (kept.1 k h) (only k l (omega (arith, h, kept.0)))

-- ---- a core
pub with_core_is : (c : CoreForm) (cl : List CoreForm) → with_core c cl ≡ with_formula c (with_operands c cl)
with_core_is core_true cl = refl
with_core_is core_false cl = refl
with_core_is (lit x s) cl = refl
with_core_is (both a b) cl = refl
with_core_is (either a b) cl = refl
with_core_is (after a) cl = refl
with_core_is (core_until a b) cl = refl
with_core_is (core_release a b) cl = refl

kept_two : (c a b : CoreForm) (cl : List CoreForm) → IsKept cl (with_core a cl) → IsKept (with_core a cl) (with_core b (with_core a cl)) → IsKept cl (with_formula c (with_core b (with_core a cl)))
kept_two c a b cl p q =
    let one = with_core a cl in
    let two = with_core b one in
    kept_then cl two (with_formula c two) (kept_then cl one two p q) (with_kept two c)

pub core_kept : (c : CoreForm) (cl : List CoreForm) → IsKept cl (with_core c cl)
core_kept core_true cl = with_kept cl core_true
core_kept core_false cl = with_kept cl core_false
core_kept (lit x s) cl = with_kept cl (lit x s)
core_kept (both a b) cl = kept_two (both a b) a b cl (core_kept a cl) (core_kept b (with_core a cl))
core_kept (either a b) cl = kept_two (either a b) a b cl (core_kept a cl) (core_kept b (with_core a cl))
core_kept (after a) cl = kept_then cl (with_core a cl) (with_formula (after a) (with_core a cl)) (core_kept a cl) (with_kept (with_core a cl) (after a))
core_kept (core_until a b) cl = kept_two (core_until a b) a b cl (core_kept a cl) (core_kept b (with_core a cl))
core_kept (core_release a b) cl = kept_two (core_release a b) a b cl (core_kept a cl) (core_kept b (with_core a cl))

-- a core comes behind its operands
module _ (c : CoreForm) (cl mid : List CoreForm) (operands : mid ≡ with_operands c cl) where
  core_is : with_formula c mid ≡ with_core c cl
  core_is = subst (λ z. with_formula c z ≡ with_core c cl) (sym operands) (sym (with_core_is c cl))

  pub core_put : (f : CoreForm) (new : List CoreForm) → f ≡ c → new ≡ with_formula f mid → new ≡ with_core c cl
  core_put f new e p = p ∙ subst (λ g. with_formula g mid ≡ with_core c cl) (sym e) core_is

  pub core_over : (limit : ℕ) (f : CoreForm) → f ≡ c → length mid ≡ limit → ¬ (Contains mid f) → limit < length (with_core c cl)
  core_over limit f e l h = subst (λ z. limit < length z) (core_put f (with_formula f mid) e refl) (with_over mid f limit l h)

  pub operands_kept : IsKept mid (with_core c cl)
  operands_kept = subst (IsKept mid) core_is (with_kept mid c)

-- ---- what a core adds
module _ (c : CoreForm) (P : CoreForm → Type 0) (self : P c) where
  then_self : (old mid : List CoreForm) → AddsOnly P old mid → AddsOnly P old (with_formula c mid)
  then_self old mid first =
      adds_then P old mid (with_formula c mid) (with_kept mid c) first (adds_as (λ d. d ≡ c) P mid (with_formula c mid) (λ d e. subst P (sym e) self) (with_only mid c))

  then_two : (a b : CoreForm) (cl : List CoreForm) → ((d : CoreForm) → IsSubformula d a → P d) → ((d : CoreForm) → IsSubformula d b → P d)
      → AddsOnly (λ d. IsSubformula d a) cl (with_core a cl) → AddsOnly (λ d. IsSubformula d b) (with_core a cl) (with_core b (with_core a cl))
      → AddsOnly P cl (with_formula c (with_core b (with_core a cl)))
  then_two a b cl f g p q =
      let one = with_core a cl in
      let two = with_core b one in
      then_self cl two (adds_then P cl one two (core_kept b one) (adds_as (λ d. IsSubformula d a) P cl one f p) (adds_as (λ d. IsSubformula d b) P one two g q))

pub core_only : (c : CoreForm) (cl : List CoreForm) → AddsOnly (λ d. IsSubformula d c) cl (with_core c cl)
core_only core_true cl = with_only cl core_true
core_only core_false cl = with_only cl core_false
core_only (lit x s) cl = with_only cl (lit x s)
core_only (both a b) cl = then_two (both a b) (λ d. IsSubformula d (both a b)) (inl refl) a b cl (λ d h. inr (inl h)) (λ d h. inr (inr h)) (core_only a cl) (core_only b (with_core a cl))
core_only (either a b) cl = then_two (either a b) (λ d. IsSubformula d (either a b)) (inl refl) a b cl (λ d h. inr (inl h)) (λ d h. inr (inr h)) (core_only a cl) (core_only b (with_core a cl))
core_only (after a) cl = then_self (after a) (λ d. IsSubformula d (after a)) (inl refl) cl (with_core a cl) (adds_as (λ d. IsSubformula d a) (λ d. IsSubformula d (after a)) cl (with_core a cl) (λ d h. inr h) (core_only a cl))
core_only (core_until a b) cl = then_two (core_until a b) (λ d. IsSubformula d (core_until a b)) (inl refl) a b cl (λ d h. inr (inl h)) (λ d h. inr (inr h)) (core_only a cl) (core_only b (with_core a cl))
core_only (core_release a b) cl = then_two (core_release a b) (λ d. IsSubformula d (core_release a b)) (inl refl) a b cl (λ d h. inr (inl h)) (λ d h. inr (inr h)) (core_only a cl) (core_only b (with_core a cl))

-- what is there stays as the cores of a list come
pub cores_kept : (cs cl : List CoreForm) → IsKept cl (with_cores cs cl)
cores_kept [] cl = kept_self cl
cores_kept (c ∷ cs) cl = kept_then cl (with_core c cl) (with_cores cs (with_core c cl)) (core_kept c cl) (cores_kept cs (with_core c cl))
