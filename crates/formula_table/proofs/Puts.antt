-- What a formula more does to a closure.
use Rattle.std.proofs.Common.{◌≡◌, ◌↔◌, ℕ, suc, ◌+◌, ◌<◌, ◌≤◌, Bool, true, false, cond, List, [], ◌∷◌, ◌++◌, IsTrue, IsFalse, length, refl, sym, ap, ◌∙◌, subst, true≢false, length-append, arith}
use Rattle.std.specs.Prelude.{Contains, Result, Ok, Err, OnOk, OnErr, IsErrOf, IsErrAnd}
use Rattle.std.specs.List.{list_any, position_or_len}
use Rattle.bound_unfolding.specs.CoreForm.{CoreForm}
use Rattle.formula_table.specs.declared.shape.Shape.{Shape}
use Rattle.formula_table.specs.declared.table.PutRefusal.{PutRefusal}
use Rattle.formula_table.specs.declared.table.PutRefusal.TheVariants.{Full, Memory}
use Rattle.formula_table.specs.Closures.{is_same, formula_at, number_in, with_formula}
use Rattle.formula_table.specs.Distinct.{IsMember, IsDistinct}
use Rattle.formula_table.specs.Decoding.{formula_of, OperandsBelow, decoded, OperandsFirst}
use Rattle.formula_table.specs.Tables.{IsKept, AddsOnly}
use Rattle.formula_table.proofs.Decodings.{decoded_length, put_closure, put_place}
use Rattle.formula_table.proofs.Members.{contained, member_where, member_if_full, at_more, at_last, number_known, number_below, number_absent, number_last, distinct_last}

module _ (cl : List CoreForm) (c : CoreForm) where
  cases : (P : List CoreForm → Type 0) → (IsMember cl c → P cl) → (IsFalse (list_any (is_same c) cl) → P (cl ++ c ∷ [])) → P (with_formula c cl)
  cases P f g = go (list_any (is_same c) cl) refl
    where
      go : (b : Bool) → list_any (is_same c) cl ≡ b → P (cond b cl (cl ++ c ∷ []))
      go true e = f e
      go false e = g e

  length_one : length (cl ++ c ∷ []) ≡ suc (length cl)
  length_one = let g = length-append cl (c ∷ []) in omega (arith, g)

  pub with_number : number_in cl c ≡ number_in (with_formula c cl) c
  with_number = cases (λ z. number_in cl c ≡ number_in z c) (λ m. refl) (λ n. number_absent cl c n ∙ sym (number_last cl c n))

  pub with_at : formula_at (with_formula c cl) (number_in cl c) ≡ c
  with_at = cases (λ z. formula_at z (number_in cl c) ≡ c) (number_known cl c) (λ n. ap (formula_at (cl ++ c ∷ [])) (number_absent cl c n) ∙ at_last cl c)

  pub with_inside : number_in cl c < length (with_formula c cl)
  with_inside = cases (λ z. number_in cl c < length z) (number_below cl c) (λ n. let e = number_absent cl c n in let l = length_one in omega (arith, e, l))

  pub with_kept : IsKept cl (with_formula c cl)
  with_kept = cases (IsKept cl) (λ m. (omega arith, λ k l. refl)) (λ n. let l = length_one in (omega (arith, l), at_more cl (c ∷ [])))

  pub with_self : IsMember (with_formula c cl) c
  with_self = member_where (with_formula c cl) c (number_in cl c) with_inside with_at

  pub with_known : IsMember cl c → with_formula c cl ≡ cl
  with_known m = cases (λ z. z ≡ cl) (λ _. refl) (λ n. absurd (true≢false (sym m ∙ n)))

  pub with_size : length (with_formula c cl) ≤ length cl + 1
  with_size = cases (λ z. length z ≤ length cl + 1) (λ m. omega arith) (λ n. let g = length_one in omega (arith, g))

  pub with_only : AddsOnly (λ d. d ≡ c) cl (with_formula c cl)
  with_only = cases (AddsOnly (λ d. d ≡ c) cl) (λ m k l h. absurd (omega arith)) (λ n k l h.
      let g = length_one in
      let e : k ≡ length cl = omega (arith, g) in
      ap (formula_at (cl ++ c ∷ [])) e ∙ at_last cl c)

  pub with_distinct : IsDistinct cl → IsDistinct (with_formula c cl)
  with_distinct d = cases IsDistinct (λ m. d) (λ n. distinct_last cl c (λ m. true≢false (sym m ∙ n)) d)

  -- it has room where the closure has, or the formula is there
  pub with_few : (limit : ℕ) → length cl ≤ limit → (length cl ≡ limit → IsMember cl c) → length (with_formula c cl) ≤ limit
  with_few limit l full = cases (λ z. length z ≤ limit) (λ m. l) (λ n.
      let g = length_one in
      let below : ¬ (length cl ≡ limit) = λ e. true≢false (sym (full e) ∙ n) in
      omega (arith, g, below))

  pub with_over : (limit : ℕ) → length cl ≡ limit → ¬ (Contains cl c) → limit < length (with_formula c cl)
  with_over limit l h = cases (λ z. limit < length z) (λ m. absurd (h (contained cl c m))) (λ n. let g = length_one in omega (arith, g))

-- all that a formula more does, with the number that it has then
pub record IsPut (old : List CoreForm) (c : CoreForm) (new : List CoreForm) (number : ℕ) : Type 0 where
  pub put : new ≡ with_formula c old
  pub id : number ≡ number_in new c
  pub tree : formula_at new number ≡ c
  pub inside : number < length new
  pub kept : IsKept old new

formula_put : (cl : List CoreForm) (c : CoreForm) → IsPut cl c (with_formula c cl) (number_in cl c)
formula_put cl c = record {
  put = refl;
  id = with_number cl c;
  tree = with_at cl c;
  inside = with_inside cl c;
  kept = with_kept cl c;
}

-- the same of a table of shapes that a shape is inserted into
module _ (eq : Shape → Shape → Bool) (eq_is : (s t : Shape) → IsTrue (eq s t) ↔ (s ≡ t)) (ss : List Shape) (s : Shape) (o : OperandsFirst 0 ss) (d : IsDistinct (decoded ss)) (b : OperandsBelow (length (decoded ss)) s) where
  abbrev IsInserted : List Shape → Type 0
  IsInserted new = new ≡ cond (list_any (eq s) ss) ss (ss ++ s ∷ [])

  closure_is : (new : List Shape) → IsInserted new → with_formula (formula_of (decoded ss) s) (decoded ss) ≡ decoded new
  closure_is new e = sym (ap decoded e ∙ put_closure eq eq_is ss s o d b)

  pub shape_put : (new : List Shape) (number : ℕ) → IsInserted new → number ≡ position_or_len (eq s) ss → IsPut (decoded ss) (formula_of (decoded ss) s) (decoded new) number
  shape_put new number e p =
      let c = formula_of (decoded ss) s in
      let place : number_in (decoded ss) c ≡ number = sym (p ∙ put_place eq eq_is ss s o d b) in
      subst (IsPut (decoded ss) c (decoded new)) place (subst (λ z. IsPut (decoded ss) c z (number_in (decoded ss) c)) (closure_is new e) (formula_put (decoded ss) c))

  pub shapes_distinct : (new : List Shape) → IsInserted new → IsDistinct (decoded new)
  shapes_distinct new e = subst IsDistinct (closure_is new e) (with_distinct (decoded ss) (formula_of (decoded ss) s) d)

  pub shapes_few : (limit : ℕ) → length ss ≤ limit → ¬ ((length (decoded ss) ≡ limit) × ¬ (Contains (decoded ss) (formula_of (decoded ss) s))) → (new : List Shape) → IsInserted new → length new ≤ limit
  shapes_few limit l room new e =
      let c = formula_of (decoded ss) s in
      let before = decoded_length ss in
      let after = decoded_length new in
      let few = with_few (decoded ss) c limit (omega (arith, before)) (member_if_full limit (decoded ss) c room) in
      let h : length (decoded new) ≤ limit = subst (λ z. length z ≤ limit) (closure_is new e) few in
      omega (arith, after, h)

-- ---- what holds after an insertion, whether it was refused or not
pub after_insertion : {X E P Q : Type 0} (r : Result X E) → OnOk r P → OnErr r Q → {R : Type 0} → (P → R) → (Q → R) → R
after_insertion (Ok x) p q f g = f p
after_insertion (Err e) p q f g = g q

-- a refusal for want of memory is no other
pub not_full : {X : Type 0} (r : Result X PutRefusal) → IsErrAnd r (λ e. e ≡ Memory) → ¬ (IsErrOf r Full)
not_full (Ok x) m f = cc
not_full (Err e) m f = let p : e ≡ Memory = m in cc
