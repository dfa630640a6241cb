-- Ascending lists: what they have after a change, and that they are known from what they have.
use Rattle.std.specs.List.{AllByRecursion as Each}
use Rattle.std.specs.List.Sorted.{IsStrictlyIncreasing}
use Rattle.std.proofs.Common.{◌≡◌, ℕ, zero, suc, ◌+◌, ◌<◌, Bool, true, false, List, [], ◌∷◌, IsTrue, ◌==◌, ◌||◌, ◌&&◌, not, Option, Some, None, nat_lt, get_or, refl, inl, inr, sym, ap, ap₂, ◌∙◌, subst, true≢false, arith}
use Rattle.tableau_rules.specs.Sets.{has_number, with_number, without_number, with_option, without_option}
use Rattle.tableau_rules.specs.Words.{is_given}
use Rattle.formula_table.proofs.Tests.{cond_case, or_left, or_right, or_true, eq_of, eq_to, eq_self}
use Rattle.tableau_rules.proofs.Lists.{each_map}
use Rattle.tableau_rules.proofs.NumberSets.{each_has, each_with, each_without}

abbrev pub IsAscending : List ℕ → Type 0
IsAscending [] = Unit {0}
IsAscending (x ∷ xs) = Each (λ y. x < y) xs × IsAscending xs

-- ---- changes keep the order
pub ascending_with : (x : ℕ) (ys : List ℕ) → IsAscending ys → IsAscending (with_number x ys)
ascending_with x [] h = (tt, tt)
ascending_with x (y ∷ ys) h =
    cond_case IsAscending (nat_lt x y) _ _
    (λ e. let l : x < y = grind arith in ((l, each_map (λ z. y < z) (λ z. x < z) ys (λ z g. omega arith) h.0), h))
    (λ n. cond_case IsAscending (x == y) _ _ (λ _. h)
    (λ m. let l : y < x = grind arith in (each_with (λ z. y < z) x ys l h.0, ascending_with x ys h.1)))

pub ascending_without : (x : ℕ) (ys : List ℕ) → IsAscending ys → IsAscending (without_number x ys)
ascending_without x [] h = tt
ascending_without x (y ∷ ys) h = cond_case IsAscending (x == y) _ _ (λ _. h.1) (λ _. (each_without (λ z. y < z) x ys h.0, ascending_without x ys h.1))

pub ascending_with_option : (o : Option ℕ) (xs : List ℕ) → IsAscending xs → IsAscending (with_option o xs)
ascending_with_option None xs a = a
ascending_with_option (Some x) xs a = ascending_with x xs a

pub ascending_without_option : (o : Option ℕ) (xs : List ℕ) → IsAscending xs → IsAscending (without_option o xs)
ascending_without_option None xs a = a
ascending_without_option (Some x) xs a = ascending_without x xs a

-- ---- ascending lists with the same numbers are one list
pub none_below : (x : ℕ) (xs : List ℕ) → Each (λ y. x < y) xs → IsTrue (has_number xs x) → ⊥
none_below x xs h k = let l = each_has (λ y. x < y) xs x h k in omega arith

pub same_bool : (a b : Bool) → (IsTrue a → IsTrue b) → (IsTrue b → IsTrue a) → a ≡ b
same_bool true b f g = sym (f refl)
same_bool false true f g = g refl
same_bool false false f g = refl

pub same_ascending : (xs ys : List ℕ) → IsAscending xs → IsAscending ys → ((z : ℕ) → IsTrue (has_number xs z) → IsTrue (has_number ys z)) → ((z : ℕ) → IsTrue (has_number ys z) → IsTrue (has_number xs z)) → xs ≡ ys
same_ascending [] [] a b f g = refl
same_ascending [] (y ∷ ys) a b f g = absurd (true≢false (sym (g y (or_left (y == y) _ (eq_self y)))))
same_ascending (x ∷ xs) [] a b f g = absurd (true≢false (sym (f x (or_left (x == x) _ (eq_self x)))))
same_ascending (x ∷ xs) (y ∷ ys) a b f g =
    let e : x ≡ y = elim (or_true (x == y) (has_number ys x) (f x (or_left (x == x) _ (eq_self x)))) [
      | inl q ↦ eq_of x y q
      | inr m ↦ elim (or_true (y == x) (has_number xs y) (g y (or_left (y == y) _ (eq_self y)))) [
        | inl q ↦ sym (eq_of y x q)
        | inr k ↦ let l = each_has (λ z. y < z) ys x b.0 m in let o = each_has (λ z. x < z) xs y a.0 k in absurd (omega arith)
      ]
    ] in
    let f' : (z : ℕ) → IsTrue (has_number xs z) → IsTrue (has_number ys z) = λ z k. elim (or_true (z == y) (has_number ys z) (f z (or_right (z == x) _ k))) [
      | inl q ↦ absurd (none_below x xs a.0 (subst (λ w. IsTrue (has_number xs w)) (eq_of z y q ∙ sym e) k))
      | inr m ↦ m
    ] in
    let g' : (z : ℕ) → IsTrue (has_number ys z) → IsTrue (has_number xs z) = λ z k. elim (or_true (z == x) (has_number xs z) (g z (or_right (z == y) _ k))) [
      | inl q ↦ absurd (none_below y ys b.0 (subst (λ w. IsTrue (has_number ys w)) (eq_of z x q ∙ e) k))
      | inr m ↦ m
    ] in
    ap₂ (λ z zs. z ∷ zs) e (same_ascending xs ys a.1 b.1 f' g')

-- ---- what a list has after a change
pub has_in_with : (x z : ℕ) (ys : List ℕ) → has_number (with_number x ys) z ≡ (z == x || has_number ys z)
has_in_with x z [] = refl
has_in_with x z (y ∷ ys) =
    cond_case (λ zs. has_number zs z ≡ (z == x || (z == y || has_number ys z))) (nat_lt x y) _ _ (λ _. refl)
    (λ _. cond_case (λ zs. has_number zs z ≡ (z == x || (z == y || has_number ys z))) (x == y) _ _
    (λ e. there (z == x) (z == y) (has_number ys z) (λ q. eq_to z y (eq_of z x q ∙ eq_of x y e)))
    (λ _. ap (λ b. z == y || b) (has_in_with x z ys) ∙ swap (z == y) (z == x) (has_number ys z)))
  where
    there : (a b c : Bool) → (IsTrue a → IsTrue b) → (b || c) ≡ (a || (b || c))
    there true b c f = ap (λ v. v || c) (f refl)
    there false b c f = refl

    swap : (a b c : Bool) → (a || (b || c)) ≡ (b || (a || c))
    swap true true c = refl
    swap true false c = refl
    swap false true c = refl
    swap false false c = refl

pub has_in_without : (x z : ℕ) (ys : List ℕ) → IsAscending ys → has_number (without_number x ys) z ≡ (not (z == x) && has_number ys z)
has_in_without x z [] a = sym (none (z == x))
  where
    none : (b : Bool) → (not b && false) ≡ false
    none true = refl
    none false = refl
has_in_without x z (y ∷ ys) a =
    cond_case (λ zs. has_number zs z ≡ (not (z == x) && (z == y || has_number ys z))) (x == y) _ _
    (λ e. first (z == x) (z == y) (has_number ys z) (λ q. eq_to z y (eq_of z x q ∙ eq_of x y e)) (λ q. eq_to z x (eq_of z y q ∙ sym (eq_of x y e)))
    (λ q m. none_below y ys a.0 (subst (λ w. IsTrue (has_number ys w)) (eq_of z y q) m)))
    (λ n. ap (λ b. z == y || b) (has_in_without x z ys a.1) ∙ later (z == x) (z == y) (has_number ys z) (λ p q. true≢false (sym (eq_to x y (sym (eq_of z x p) ∙ eq_of z y q)) ∙ n)))
  where
    first : (p q c : Bool) → (IsTrue p → IsTrue q) → (IsTrue q → IsTrue p) → (IsTrue q → IsTrue c → ⊥) → c ≡ (not p && (q || c))
    first true q true f g h = absurd (h (f refl) refl)
    first true q false f g h = refl
    first false true c f g h = absurd (true≢false (sym (g refl)))
    first false false c f g h = refl

    later : (p q c : Bool) → (IsTrue p → IsTrue q → ⊥) → (q || (not p && c)) ≡ (not p && (q || c))
    later true true c h = absurd (h refl refl)
    later true false c h = refl
    later false true c h = refl
    later false false c h = refl

pub has_in_with_option : (o : Option ℕ) (z : ℕ) (xs : List ℕ) → has_number (with_option o xs) z ≡ (is_given o z || has_number xs z)
has_in_with_option None z xs = refl
has_in_with_option (Some x) z xs = has_in_with x z xs

pub has_in_without_option : (o : Option ℕ) (z : ℕ) (xs : List ℕ) → IsAscending xs → has_number (without_option o xs) z ≡ (not (is_given o z) && has_number xs z)
has_in_without_option None z xs a = refl
has_in_without_option (Some x) z xs a = has_in_without x z xs a

-- ---- std's word for it
pub increasing : (xs : List ℕ) → IsAscending xs → IsStrictlyIncreasing xs
increasing [] h k l = absurd (omega arith)
increasing (x ∷ []) h k l = absurd (omega arith)
increasing (x ∷ y ∷ ys) h zero l = h.0.0
increasing (x ∷ y ∷ ys) h (suc k) l =
    let e : suc (k + 1) ≡ suc k + 1 = omega arith in
    subst (λ n. get_or (y ∷ ys) k 0 < get_or (x ∷ y ∷ ys) n 0) e (increasing (y ∷ ys) h.1 k (omega arith))
