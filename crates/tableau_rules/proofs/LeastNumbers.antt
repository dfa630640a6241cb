-- The least number that is not below a given one, and the list from there on.
use Rattle.std.specs.List.{AllByRecursion as Each}
use Rattle.std.proofs.Common.{◌≡◌, ℕ, ◌+◌, ◌<◌, ◌≤◌, Bool, true, false, List, [], ◌∷◌, IsTrue, IsFalse, ◌==◌, Option, Some, None, MatchOption, cond, nat_lt, refl, inl, inr, sym, ap, ◌∙◌, subst, true≢false, arith}
use Rattle.tableau_rules.specs.Sets.{has_number, least_from, numbers_from}
use Rattle.formula_table.proofs.Tests.{cond_case, or_left, or_right, or_true, eq_of, eq_self}
use Rattle.tableau_rules.proofs.NumberSets.{each_has}
use Rattle.tableau_rules.proofs.Ascending.{IsAscending}

pub least_is : (x y : ℕ) (ys : List ℕ) → IsTrue (has_number ys y) → x ≤ y → ((z : ℕ) → x ≤ z → z < y → IsTrue (has_number ys z) → ⊥) → IsAscending ys → least_from x ys ≡ Some y
least_is x y [] h l n a = absurd (true≢false (sym h))
least_is x y (v ∷ vs) h l n a = cond_case (λ o. o ≡ Some y) (nat_lt v x) _ _
    (λ b. elim (or_true (y == v) (has_number vs y) h) [
      | inl e ↦ absurd (below v x y b l (eq_of y v e))
      | inr m ↦ least_is x y vs m l (λ z p q k. n z p q (or_right (z == v) _ k)) a.1
    ])
    (λ b. ap Some (elim (or_true (y == v) (has_number vs y) h) [
      | inl e ↦ sym (eq_of y v e)
      | inr m ↦ absurd (n v (above v x b) (each_has (λ w. v < w) vs y a.0 m) (or_left (v == v) _ (eq_self v)))
    ]))
  where
    below : (v x y : ℕ) → IsTrue (nat_lt v x) → x ≤ y → y ≡ v → ⊥
    below v x y b l e = grind arith

    above : (v x : ℕ) → IsFalse (nat_lt v x) → x ≤ v
    above v x b = grind arith

pub least_none : (x : ℕ) (ys : List ℕ) → ((z : ℕ) → x ≤ z → IsTrue (has_number ys z) → ⊥) → least_from x ys ≡ None
least_none x [] n = refl
least_none x (v ∷ vs) n = cond_case (λ o. o ≡ None) (nat_lt v x) _ _
    (λ b. least_none x vs (λ z p k. n z p (or_right (z == v) _ k)))
    (λ b. absurd (n v (above v x b) (or_left (v == v) _ (eq_self v))))
  where
    above : (v x : ℕ) → IsFalse (nat_lt v x) → x ≤ v
    above v x b = grind arith

-- ---- the list from there on
least_ge : (x y : ℕ) (xs : List ℕ) → least_from x xs ≡ Some y → x ≤ y
least_ge x y [] = λ h. absurd (cc)
least_ge x y (z ∷ zs) = go (nat_lt z x) refl (least_ge x y zs)
  where
    up : (w : ℕ) → nat_lt w x ≡ false → w ≡ y → x ≤ y
    up w f e = grind arith

    go : (b : Bool) → nat_lt z x ≡ b → (least_from x zs ≡ Some y → x ≤ y) → cond b (least_from x zs) (Some z) ≡ Some y → x ≤ y
    go true e r h = r h
    go false e r h = let q : z ≡ y = cc in up z e q

pub numbers_from_some : (x y : ℕ) (xs : List ℕ) → IsAscending xs → least_from x xs ≡ Some y → numbers_from x xs ≡ y ∷ numbers_from (y + 1) xs
numbers_from_some x y [] a = λ h. absurd (cc)
numbers_from_some x y (z ∷ zs) a = go (nat_lt z x) refl (numbers_from_some x y zs a.1)
  where
    no : (v w : ℕ) → IsTrue (nat_lt w (v + 1)) → v < w → ⊥
    no v w b l = grind arith

    next : (v : ℕ) (us : List ℕ) → Each (λ w. v < w) us → numbers_from (v + 1) us ≡ us
    next v [] e = refl
    next v (w ∷ ws) e = cond_case (λ us. us ≡ w ∷ ws) (nat_lt w (v + 1)) _ _ (λ b. absurd (no v w b e.0)) (λ _. refl)

    low : nat_lt z x ≡ true → x ≤ y → IsFalse (nat_lt z (y + 1)) → ⊥
    low e l f = grind arith

    self : (v : ℕ) → IsFalse (nat_lt v (v + 1)) → ⊥
    self v f = grind arith

    go : (b : Bool) → nat_lt z x ≡ b → (least_from x zs ≡ Some y → numbers_from x zs ≡ y ∷ numbers_from (y + 1) zs) → cond b (least_from x zs) (Some z) ≡ Some y → cond b (numbers_from x zs) (z ∷ zs) ≡ y ∷ numbers_from (y + 1) (z ∷ zs)
    go true e r h = r h ∙ ap (λ us. y ∷ us) (cond_case (λ us. numbers_from (y + 1) zs ≡ us) (nat_lt z (y + 1)) (numbers_from (y + 1) zs) (z ∷ zs) (λ _. refl) (λ f. absurd (low e (least_ge x y zs h) f)))
    go false e r h = let q : z ≡ y = cc in subst (λ v. z ∷ zs ≡ v ∷ numbers_from (v + 1) (z ∷ zs)) q
        (ap (λ us. z ∷ us) (cond_case (λ us. zs ≡ us) (nat_lt z (z + 1)) (numbers_from (z + 1) zs) (z ∷ zs) (λ _. sym (next z zs a.0)) (λ f. absurd (self z f))))

pub numbers_from_none : (x : ℕ) (xs : List ℕ) → least_from x xs ≡ None → numbers_from x xs ≡ []
numbers_from_none x [] = λ h. refl
numbers_from_none x (z ∷ zs) = go (nat_lt z x) (numbers_from_none x zs)
  where
    go : (b : Bool) → (least_from x zs ≡ None → numbers_from x zs ≡ []) → cond b (least_from x zs) (Some z) ≡ None → cond b (numbers_from x zs) (z ∷ zs) ≡ []
    go true r h = r h
    go false r h = absurd (cc)

pub least_run : (x : ℕ) (xs : List ℕ) (r : Option ℕ) → IsAscending xs → r ≡ least_from x xs → MatchOption r (numbers_from x xs ≡ []) (λ y. (x ≤ y) × (numbers_from x xs ≡ y ∷ numbers_from (y + 1) xs))
least_run x xs None a h = numbers_from_none x xs (sym h)
least_run x xs (Some y) a h = (least_ge x y xs (sym h), numbers_from_some x y xs a (sym h))
