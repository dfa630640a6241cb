-- The closure of a query: operands of its formulas are in it, no formula stands in it twice, and its formulas are over the query's variables.
use Rattle.std.proofs.Common.{◌≡◌, ◌<◌, arith, ℕ, zero, suc, Bool, true, false, List, [], ◌∷◌, ◌++◌, IsTrue, cond, refl, inl, inr, sym, ap, subst, ◌∙◌, true≢false, length}
use Rattle.std.specs.List.{list_any, AllByRecursion as Each}
use Rattle.bound_unfolding.specs.CoreForm.{CoreForm, core_true, core_false, lit, both, either, after, core_until, core_release}
use Rattle.formula_table.specs.Closures.{is_same, formula_at, number_in, with_formula, with_core, with_cores, closure_of, operands}
use Rattle.formula_table.specs.Distinct.{IsMember, IsDistinct}
use Rattle.formula_table.proofs.Members.{same_eq, same_self, distinct_last}
use Rattle.tableau_rules.specs.Certificates.{is_until}
use Rattle.tableau_rules.specs.Queries.{IsOver}
use Rattle.formula_table.proofs.Tests.{cond_case, or_left, or_right, or_true}
use Rattle.tableau_rules.proofs.Lists.{each_map}
use Rattle.tableau_rules.proofs.RuleParts.{LiteralBelow, IsKnown, IsClosed}

-- ---- members
pub member_known : (closure : List CoreForm) (c : CoreForm) → IsMember closure c → IsKnown closure c
member_known [] c h = absurd (true≢false (sym h))
member_known (d ∷ ds) c h =
    cond_case (λ p. formula_at (d ∷ ds) p ≡ c) (is_same c d) _ _ (λ e. sym (same_eq c d e))
    (λ f. elim (or_true (is_same c d) _ h) [ inl e ↦ absurd (true≢false (sym e ∙ f)) | inr m ↦ member_known ds c m ])

known_at : (closure : List CoreForm) (f : ℕ) → IsKnown closure (formula_at closure f)
known_at [] f = refl
known_at (d ∷ ds) zero =
    cond_case (λ p. formula_at (d ∷ ds) p ≡ d) (is_same d d) _ _ (λ _. refl) (λ f. absurd (true≢false (sym (same_self d) ∙ f)))
known_at (d ∷ ds) (suc n) =
    let c = formula_at ds n in
    cond_case (λ p. formula_at (d ∷ ds) p ≡ c) (is_same c d) _ _ (λ e. sym (same_eq c d e)) (λ _. known_at ds n)

member_more : (closure : List CoreForm) (c x : CoreForm) → IsMember closure x → IsMember (closure ++ c ∷ []) x
member_more [] c x h = absurd (true≢false (sym h))
member_more (d ∷ ds) c x h = elim (or_true (is_same x d) _ h) [
  | inl e ↦ or_left (is_same x d) _ e
  | inr m ↦ or_right (is_same x d) _ (member_more ds c x m)
]

member_last : (closure : List CoreForm) (c : CoreForm) → IsMember (closure ++ c ∷ []) c
member_last [] c = or_left (is_same c c) false (same_self c)
member_last (d ∷ ds) c = or_right (is_same c d) _ (member_last ds c)

member_with : (closure : List CoreForm) (c x : CoreForm) → IsMember closure x → IsMember (with_formula c closure) x
member_with closure c x h =
    cond_case (λ z. IsMember z x) (list_any (is_same c) closure) _ _ (λ _. h) (λ _. member_more closure c x h)

member_with_self : (closure : List CoreForm) (c : CoreForm) → IsMember (with_formula c closure) c
member_with_self closure c = cond_case (λ z. IsMember z c) (list_any (is_same c) closure) _ _ (λ h. h) (λ _. member_last closure c)

-- what holds of each formula holds of each with one more
module _ (P : CoreForm → Type 0) (none : P core_false) where
  at_last : (closure : List CoreForm) (c : CoreForm) (f : ℕ) → P (formula_at closure f) → P c → P (formula_at (closure ++ c ∷ []) f)
  at_last [] c zero h k = k
  at_last [] c (suc n) h k = none
  at_last (d ∷ ds) c zero h k = h
  at_last (d ∷ ds) c (suc n) h k = at_last ds c n h k

  at_with : (closure : List CoreForm) (c : CoreForm) → ((f : ℕ) → P (formula_at closure f)) → P c → (f : ℕ) → P (formula_at (with_formula c closure) f)
  at_with closure c h k f =
      cond_case (λ z. P (formula_at z f)) (list_any (is_same c) closure) _ _ (λ _. h f) (λ _. at_last closure c f (h f) k)

  -- what operands have from their formulas holds of the whole closure
  module _ (down : (c : CoreForm) → P c → Each P (operands c)) where
    at_core : (c : CoreForm) (closure : List CoreForm) → ((f : ℕ) → P (formula_at closure f)) → P c → (f : ℕ) → P (formula_at (with_core c closure) f)
    at_core core_true cl h k = at_with cl core_true h k
    at_core core_false cl h k = at_with cl core_false h k
    at_core (lit x s) cl h k = at_with cl (lit x s) h k
    at_core (after a) cl h k = at_with (with_core a cl) (after a) (at_core a cl h (down (after a) k).0) k
    at_core (both a b) cl h k =
        let ops = down (both a b) k in
        at_with (with_core b (with_core a cl)) (both a b) (at_core b (with_core a cl) (at_core a cl h ops.0) ops.1.0) k
    at_core (either a b) cl h k =
        let ops = down (either a b) k in
        at_with (with_core b (with_core a cl)) (either a b) (at_core b (with_core a cl) (at_core a cl h ops.0) ops.1.0) k
    at_core (core_until a b) cl h k =
        let ops = down (core_until a b) k in
        at_with (with_core b (with_core a cl)) (core_until a b) (at_core b (with_core a cl) (at_core a cl h ops.0) ops.1.0) k
    at_core (core_release a b) cl h k =
        let ops = down (core_release a b) k in
        at_with (with_core b (with_core a cl)) (core_release a b) (at_core b (with_core a cl) (at_core a cl h ops.0) ops.1.0) k

    at_cores : (cs closure : List CoreForm) → ((f : ℕ) → P (formula_at closure f)) → Each P cs → (f : ℕ) → P (formula_at (with_cores cs closure) f)
    at_cores [] closure h k = h
    at_cores (c ∷ cs) closure h k = at_cores cs (with_core c closure) (at_core c closure h k.0) k.1

    pub in_closure : (cs : List CoreForm) → Each P cs → (f : ℕ) → P (formula_at (closure_of cs) f)
    in_closure cs = at_cores cs [] (λ f. none)

-- ---- no formula twice
pub record IsFine (closure : List CoreForm) : Type 0 where
  pub operands_in : (f : ℕ) → Each (IsMember closure) (operands (formula_at closure f))
  pub once : IsDistinct closure

pub fine_with : (closure : List CoreForm) (c : CoreForm) → IsFine closure → Each (IsMember closure) (operands c) → IsFine (with_formula c closure)
fine_with closure c f h = go (list_any (is_same c) closure) refl
  where
    go : (b : Bool) → list_any (is_same c) closure ≡ b → IsFine (cond b closure (closure ++ c ∷ []))
    go true e = f
    go false e = record {
      operands_in = λ n.
          let at_n = formula_at (closure ++ c ∷ []) n in
          each_map (IsMember closure) (IsMember (closure ++ c ∷ [])) (operands at_n) (member_more closure c)
          (at_last (λ x. Each (IsMember closure) (operands x)) tt closure c n (f.operands_in n) h);
      once = distinct_last closure c (λ m. true≢false (sym m ∙ e)) f.once;
    }

-- what a core does to a closure
pub record Grows (closure new : List CoreForm) (c : CoreForm) : Type 0 where
  pub fine : IsFine new
  pub more : (x : CoreForm) → IsMember closure x → IsMember new x
  pub self : IsMember new c

grows_leaf : (c : CoreForm) (closure : List CoreForm) → IsFine closure → Each (IsMember closure) (operands c) → Grows closure (with_formula c closure) c
grows_leaf c closure f h = record { fine = fine_with closure c f h; more = member_with closure c; self = member_with_self closure c }

grows_one : (c a : CoreForm) (closure new : List CoreForm) → operands c ≡ a ∷ [] → Grows closure new a → Grows closure (with_formula c new) c
grows_one c a closure new e p =
    let q = grows_leaf c new p.fine (subst (Each (IsMember new)) (sym e) (p.self, tt)) in
    record { fine = q.fine; more = λ x h. q.more x (p.more x h); self = q.self }

grows_two : (c a b : CoreForm) (closure mid new : List CoreForm) → operands c ≡ a ∷ b ∷ [] → Grows closure mid a → Grows mid new b → Grows closure (with_formula c new) c
grows_two c a b closure mid new e p r =
    let q = grows_leaf c new r.fine (subst (Each (IsMember new)) (sym e) (r.more a p.self, (r.self, tt))) in
    record { fine = q.fine; more = λ x h. q.more x (r.more x (p.more x h)); self = q.self }

pub with_core_grows : (c : CoreForm) (cl : List CoreForm) → IsFine cl → Grows cl (with_core c cl) c
with_core_grows core_true cl f = grows_leaf core_true cl f tt
with_core_grows core_false cl f = grows_leaf core_false cl f tt
with_core_grows (lit x s) cl f = grows_leaf (lit x s) cl f tt
with_core_grows (after a) cl f = grows_one (after a) a cl (with_core a cl) refl (with_core_grows a cl f)
with_core_grows (both a b) cl f =
    let p = with_core_grows a cl f in
    grows_two (both a b) a b cl (with_core a cl) (with_core b (with_core a cl)) refl p (with_core_grows b (with_core a cl) p.fine)
with_core_grows (either a b) cl f =
    let p = with_core_grows a cl f in
    grows_two (either a b) a b cl (with_core a cl) (with_core b (with_core a cl)) refl p (with_core_grows b (with_core a cl) p.fine)
with_core_grows (core_until a b) cl f =
    let p = with_core_grows a cl f in
    grows_two (core_until a b) a b cl (with_core a cl) (with_core b (with_core a cl)) refl p (with_core_grows b (with_core a cl) p.fine)
with_core_grows (core_release a b) cl f =
    let p = with_core_grows a cl f in
    grows_two (core_release a b) a b cl (with_core a cl) (with_core b (with_core a cl)) refl p (with_core_grows b (with_core a cl) p.fine)

pub record GrowsBy (closure new cs : List CoreForm) : Type 0 where
  pub fine : IsFine new
  pub more : (x : CoreForm) → IsMember closure x → IsMember new x
  pub all : Each (IsMember new) cs

with_cores_grows : (cs closure : List CoreForm) → IsFine closure → GrowsBy closure (with_cores cs closure) cs
with_cores_grows [] closure f = record { fine = f; more = λ x h. h; all = tt }
with_cores_grows (c ∷ cs) closure f =
    let p = with_core_grows c closure f in
    let r = with_cores_grows cs (with_core c closure) p.fine in
    record { fine = r.fine; more = λ x h. r.more x (p.more x h); all = (r.more c p.self, r.all) }

pub closure_grows : (cs : List CoreForm) → GrowsBy [] (closure_of cs) cs
closure_grows cs = with_cores_grows cs [] (record { operands_in = λ n. tt; once = tt })

-- ---- the closure of a query
module _ (cores : List CoreForm) where
  abbrev closure : List CoreForm
  closure = closure_of cores

  pub is_closed : IsClosed closure
  is_closed f =
      (known_at closure f, each_map (IsMember closure) (IsKnown closure) (operands (formula_at closure f)) (member_known closure) ((closure_grows cores).fine.operands_in f))

  pub cores_known : Each (IsKnown closure) cores
  cores_known = each_map (IsMember closure) (IsKnown closure) cores (member_known closure) (closure_grows cores).all

-- an until of a closure stands in it
pub until_below : (closure : List CoreForm) (e : ℕ) → IsTrue (is_until (formula_at closure e)) → e < length closure
until_below [] e h = absurd (true≢false (sym h))
until_below (c ∷ cs) zero h = omega arith
until_below (c ∷ cs) (suc e) h = let r = until_below cs e h in omega (arith, r)

-- an until has the number at which it stands
abbrev pub HasNumbers : List CoreForm → Type 0
HasNumbers closure = (e : ℕ) → IsTrue (is_until (formula_at closure e)) → number_in closure (formula_at closure e) ≡ e

member_at : (closure : List CoreForm) (e : ℕ) → IsTrue (is_until (formula_at closure e)) → IsMember closure (formula_at closure e)
member_at [] e h = absurd (true≢false (sym h))
member_at (d ∷ ds) zero h = or_left (is_same d d) _ (same_self d)
member_at (d ∷ ds) (suc e) h = or_right (is_same (formula_at ds e) d) _ (member_at ds e h)

number_at : (closure : List CoreForm) → IsDistinct closure → HasNumbers closure
number_at [] o e h = absurd (true≢false (sym h))
number_at (d ∷ ds) o zero h =
    cond_case (λ p. p ≡ 0) (is_same d d) _ _ (λ _. refl) (λ f. absurd (true≢false (sym (same_self d) ∙ f)))
number_at (d ∷ ds) o (suc e) h =
    let c = formula_at ds e in
    cond_case (λ p. p ≡ suc e) (is_same c d) _ _
    (λ q. absurd (o.0 (subst (IsMember ds) (same_eq c d q) (member_at ds e h)))) (λ _. ap suc (number_at ds o.1 e h))

pub has_numbers : (cores : List CoreForm) → HasNumbers (closure_of cores)
has_numbers cores = number_at (closure_of cores) (closure_grows cores).fine.once

-- ---- over the query's variables
module _ (sizes : List ℕ) where
  operands_over : (c : CoreForm) → IsOver sizes c → Each (IsOver sizes) (operands c)
  operands_over core_true h = tt
  operands_over core_false h = tt
  operands_over (lit x s) h = tt
  operands_over (both a b) h = (h.0, (h.1, tt))
  operands_over (either a b) h = (h.0, (h.1, tt))
  operands_over (after a) h = (h, tt)
  operands_over (core_until a b) h = (h.0, (h.1, tt))
  operands_over (core_release a b) h = (h.0, (h.1, tt))

  literal_over : (c : CoreForm) → IsOver sizes c → LiteralBelow (length sizes) c
  literal_over (lit x s) h = h
  literal_over _ h = tt

  pub literals_over : (cores : List CoreForm) → Each (IsOver sizes) cores → (f : ℕ) → LiteralBelow (length sizes) (formula_at (closure_of cores) f)
  literals_over cores h f =
      literal_over (formula_at (closure_of cores) f) (in_closure (IsOver sizes) tt operands_over cores h f)
