-- The formulas of each class as a set, and the chosen formula by these sets.
use Rattle.std.specs.List.{AllByRecursion as Each}
use Rattle.std.proofs.Common.{◌≡◌, ◌≢◌, ℕ, ◌+◌, ◌<◌, ◌≤◌, Bool, true, false, cond, List, [], ◌∷◌, IsTrue, IsFalse, ◌==◌, nat_lt, Some, None, length, refl, inl, inr, sym, ap, ◌∙◌, subst, true≢false, arith}
use Rattle.std.specs.Prelude.{All}
use Rattle.std.proofs.lemmas.Bool.{cases_eq, ne_eqb}
use Rattle.std.proofs.lemmas.List.Elements.{recursion_from_All}
use Rattle.bound_unfolding.specs.CoreForm.{CoreForm, core_true, core_false, lit, both, either, after, core_until, core_release}
use Rattle.formula_table.specs.Closures.{formula_at}
use Rattle.tableau_rules.specs.Rules.{class_of, is_constant}
use Rattle.tableau_rules.specs.Sets.{has_number, with_number, least_from, first_in}
use Rattle.tableau_rules.specs.Words.{passing}
use Rattle.tableau_rules.specs.Classes.{of_class}
use Rattle.tableau_rules.specs.Nodes.{first_best, chosen}
use Rattle.formula_table.proofs.Tests.{cond_case, or_left, or_right, or_true, eq_of, eq_to}
use Rattle.tableau_rules.proofs.Lists.{each_map}
use Rattle.tableau_rules.proofs.Ascending.{same_bool, same_ascending, ascending_with, has_in_with}
use Rattle.tableau_rules.proofs.NumbersOfWords.{of_passing, to_passing, passing_ascending}

-- ---- one number more
pub passing_with : (p : ℕ → Bool) (n : ℕ) → IsTrue (p n) → with_number n (passing p 0 n) ≡ passing p 0 (n + 1)
passing_with p n t =
    same_ascending (with_number n (passing p 0 n)) (passing p 0 (n + 1)) (ascending_with n (passing p 0 n) (passing_ascending p 0 n)) (passing_ascending p 0 (n + 1))
    (λ z h. elim (or_true (z == n) (has_number (passing p 0 n) z) (sym (has_in_with n z (passing p 0 n)) ∙ h)) [
      | inl q ↦ let e = eq_of z n q in to_passing p 0 (n + 1) z (subst (λ w. IsTrue (p w)) (sym e) t) (omega arith) (omega (arith, e))
      | inr m ↦ let r = of_passing p 0 n z m in let l = r.2 in to_passing p 0 (n + 1) z r.0 (omega arith) (omega (arith, l))
    ])
    (λ z h.
    let r = of_passing p 0 (n + 1) z h in
    let l = r.2 in
    has_in_with n z (passing p 0 n) ∙ elim (cases_eq z n) [
      | inl q ↦ or_left (z == n) _ (eq_to z n q)
      | inr m ↦ or_right (z == n) _ (let b = below z n m (omega (arith, l)) in to_passing p 0 n z r.0 (omega arith) (omega (arith, b)))
    ])
  where
    below : (z n : ℕ) → z ≢ n → z ≤ n → z < n
    below z n m l = grind arith

pub passing_without : (p : ℕ → Bool) (n : ℕ) → p n ≡ false → passing p 0 n ≡ passing p 0 (n + 1)
passing_without p n f =
    same_ascending (passing p 0 n) (passing p 0 (n + 1)) (passing_ascending p 0 n) (passing_ascending p 0 (n + 1))
    (λ z h. let r = of_passing p 0 n z h in let l = r.2 in to_passing p 0 (n + 1) z r.0 (omega arith) (omega (arith, l)))
    (λ z h.
    let r = of_passing p 0 (n + 1) z h in
    let l = r.2 in
    elim (cases_eq z n) [
      | inl q ↦ absurd (true≢false (sym (subst (λ w. IsTrue (p w)) q r.0) ∙ f))
      | inr m ↦ let b = below z n m (omega (arith, l)) in to_passing p 0 n z r.0 (omega arith) (omega (arith, b))
    ])
  where
    below : (z n : ℕ) → z ≢ n → z ≤ n → z < n
    below z n m l = grind arith

-- the numbers that are met, up to one more and up to all
module _ (closure : List CoreForm) (k : ℕ) where
  abbrev test : ℕ → Bool
  test f = class_of (formula_at closure f) == k

  pub class_with : (n : ℕ) (c : ℕ) (numbers more : List ℕ) → c ≡ class_of (formula_at closure n) → c ≡ k → numbers ≡ passing test 0 n → more ≡ with_number n numbers → more ≡ passing test 0 (n + 1)
  class_with n c numbers more e f h m = m ∙ (ap (with_number n) h ∙ passing_with test n (eq_to (class_of (formula_at closure n)) k (sym e ∙ f)))

  pub class_without : (n : ℕ) (c : ℕ) (numbers : List ℕ) → c ≡ class_of (formula_at closure n) → c ≢ k → numbers ≡ passing test 0 n → numbers ≡ passing test 0 (n + 1)
  class_without n c numbers e f h = h ∙ passing_without test n (ne_eqb (class_of (formula_at closure n)) k (λ q. f (e ∙ q)))

  pub class_all : (n : ℕ) (numbers : List ℕ) → length closure ≡ n → numbers ≡ passing test 0 n → numbers ≡ of_class closure k
  unfolding of_class
  class_all n numbers e h = h ∙ ap (passing test 0) (sym e)

has_of_class : (closure : List CoreForm) (k x : ℕ) → x < length closure → has_number (of_class closure k) x ≡ (class_of (formula_at closure x) == k)
unfolding of_class
has_of_class closure k x l =
    let p : ℕ → Bool = λ f. class_of (formula_at closure f) == k in
    same_bool (has_number (passing p 0 (length closure)) x) (p x) (λ h. (of_passing p 0 (length closure) x h).0) (λ t. to_passing p 0 (length closure) x t (omega arith) (omega arith))

-- ---- the first of a list that a set has
first_skip : (set : List ℕ) (f : ℕ) (fs : List ℕ) → has_number set f ≡ false → first_in set (f ∷ fs) ≡ first_in set fs
first_skip set f fs e = ap (λ b. cond b (Some f) (first_in set fs)) e

first_take : (set : List ℕ) (f : ℕ) (fs : List ℕ) → has_number set f ≡ true → first_in set (f ∷ fs) ≡ Some f
first_take set f fs e = ap (λ b. cond b (Some f) (first_in set fs)) e

first_out : (set xs : List ℕ) → first_in set xs ≡ None → Each (λ x. has_number set x ≡ false) xs
first_out set [] = λ h. tt
first_out set (x ∷ xs) = go (has_number set x) refl (first_out set xs)
  where
    go : (b : Bool) → has_number set x ≡ b → (first_in set xs ≡ None → Each (λ x. has_number set x ≡ false) xs) → cond b (Some x) (first_in set xs) ≡ None → Each (λ x. has_number set x ≡ false) (x ∷ xs)
    go true e r h = absurd (cc)
    go false e r h = (e, r h)

first_has : (P : ℕ → Type 0) (set xs : List ℕ) (g : ℕ) → Each P xs → first_in set xs ≡ Some g → P g
first_has P set [] g a = λ h. absurd (cc)
first_has P set (x ∷ xs) g a = go (has_number set x) (first_has P set xs g a.1)
  where
    go : (b : Bool) → (first_in set xs ≡ Some g → P g) → cond b (Some x) (first_in set xs) ≡ Some g → P g
    go true r h = let q : x ≡ g = cc in subst P q a.0
    go false r h = r h

each_both : (P Q : ℕ → Type 0) (xs : List ℕ) → Each P xs → Each Q xs → Each (λ x. P x × Q x) xs
each_both P Q [] a b = tt
each_both P Q (x ∷ xs) a b = ((a.0, b.0), each_both P Q xs a.1 b.1)

module _ (closure : List CoreForm) where
  abbrev class : ℕ → ℕ
  class x = class_of (formula_at closure x)

  -- the set has those of the class k, and no class is less
  abbrev Least : ℕ → List ℕ → ℕ → Type 0
  Least k set x = (has_number set x ≡ (class x == k)) × (k ≤ class x)

  out : (k : ℕ) (set : List ℕ) (x : ℕ) → Least k set x → class x ≢ k → has_number set x ≡ false
  out k set x p n = p.0 ∙ ne_eqb (class x) k n

  best_first : (k : ℕ) (set : List ℕ) (f g : ℕ) (fs : List ℕ) → Each (Least k set) (f ∷ fs) → first_in set (f ∷ fs) ≡ Some g → first_best closure f fs ≡ g
  best_first k set f g [] a e = go (has_number set f) e
    where
      go : (b : Bool) → cond b (Some f) None ≡ Some g → f ≡ g
      go true h = cc
      go false h = absurd (cc)
  best_first k set f g (h ∷ hs) a e =
      cond_case (λ x. first_best closure x hs ≡ g) (nat_lt (class h) (class f)) h f
      (λ t. best_first k set h g hs a.1 (sym (first_skip set f (h ∷ hs) (out k set f a.0 (above t (a.1.0.1)))) ∙ e))
      (λ n. best_first k set f g hs (a.0, a.1.1) (go n (has_number set f) refl))
    where
      above : IsTrue (nat_lt (class h) (class f)) → k ≤ class h → class f ≢ k
      above t l = grind arith

      other : IsFalse (nat_lt (class h) (class f)) → k ≤ class f → class f ≢ k → class h ≢ k
      other n l m = grind arith

      not_class : has_number set f ≡ false → class f ≢ k
      not_class z q = true≢false (sym (a.0.0 ∙ eq_to (class f) k q) ∙ z)

      go : IsFalse (nat_lt (class h) (class f)) → (b : Bool) → has_number set f ≡ b → first_in set (f ∷ hs) ≡ Some g
      go n true z = first_take set f hs z ∙ (sym (first_take set f (h ∷ hs) z) ∙ e)
      go n false z = first_skip set f hs z ∙ (sym (first_skip set h hs (out k set h a.1.0 (other n a.0.1 (not_class z)))) ∙ (sym (first_skip set f (h ∷ hs) z) ∙ e))

  -- ---- three classes
  class_few : (c : CoreForm) → class_of c ≤ 2
  class_few core_true = omega arith
  class_few core_false = omega arith
  class_few (lit x set) = omega arith
  class_few (both a b) = omega arith
  class_few (after a) = omega arith
  class_few (either a b) = omega arith
  class_few (core_until a b) = cond_case (λ n. n ≤ 2) (is_constant b) 1 2 (λ _. omega arith) (λ _. omega arith)
  class_few (core_release a b) = cond_case (λ n. n ≤ 2) (is_constant a) 1 2 (λ _. omega arith) (λ _. omega arith)

  best_same : (f : ℕ) (fs : List ℕ) → Each (λ x. class x ≡ 2) (f ∷ fs) → first_best closure f fs ≡ f
  best_same f [] a = refl
  best_same f (h ∷ hs) a = cond_case (λ x. first_best closure x hs ≡ f) (nat_lt (class h) (class f)) h f (λ t. absurd (no t a.0 a.1.0)) (λ _. best_same f hs (a.0, a.1.1))
    where
      no : IsTrue (nat_lt (class h) (class f)) → class f ≡ 2 → class h ≡ 2 → ⊥
      no t p q = grind arith

  module _ (todo : List ℕ) (below : All (λ f. f < length closure) todo) where
    each_below : Each (λ f. f < length closure) todo
    each_below = recursion_from_All (λ f. f < length closure) todo below

    -- those that the set of a class has not are of another
    not_of : (k : ℕ) → Each (λ x. has_number (of_class closure k) x ≡ false) todo → Each (λ x. class x ≢ k) todo
    not_of k a = each_map (λ x. (x < length closure) × (has_number (of_class closure k) x ≡ false)) (λ x. class x ≢ k) todo
        (λ x p q. true≢false (sym (has_of_class closure k x p.0 ∙ eq_to (class x) k q) ∙ p.1))
        (each_both (λ f. f < length closure) (λ x. has_number (of_class closure k) x ≡ false) todo each_below a)

    chosen_by : (k : ℕ) (set : List ℕ) (xs : List ℕ) (g : ℕ) → Each (Least k set) xs → first_in set xs ≡ Some g → chosen closure xs ≡ g
    chosen_by k set [] g a h = absurd (cc)
    chosen_by k set (f ∷ fs) g a h = best_first k set f g fs a h

    pub chosen_first : (g : ℕ) → first_in (of_class closure 0) todo ≡ Some g → chosen closure todo ≡ g
    chosen_first g h = chosen_by 0 (of_class closure 0) todo g
        (each_map (λ f. f < length closure) (Least 0 (of_class closure 0)) todo (λ x l. (has_of_class closure 0 x l, omega arith)) each_below) h

    pub chosen_second : (g : ℕ) → first_in (of_class closure 0) todo ≡ None → first_in (of_class closure 1) todo ≡ Some g → chosen closure todo ≡ g
    chosen_second g n h = chosen_by 1 (of_class closure 1) todo g
        (each_map (λ x. (x < length closure) × (class x ≢ 0)) (Least 1 (of_class closure 1)) todo (λ x p. (has_of_class closure 1 x p.0, positive (class x) p.1))
        (each_both (λ f. f < length closure) (λ x. class x ≢ 0) todo each_below (not_of 0 (first_out (of_class closure 0) todo n)))) h
      where
        positive : (n : ℕ) → n ≢ 0 → 1 ≤ n
        positive n h = grind arith

    chosen_same : (xs : List ℕ) (g : ℕ) → Each (λ x. class x ≡ 2) xs → least_from 0 xs ≡ Some g → chosen closure xs ≡ g
    chosen_same [] g a h = absurd (cc)
    chosen_same (f ∷ fs) g a h = best_same f fs a ∙ head f fs g h
      where
        none_less : (x : ℕ) → IsTrue (nat_lt x 0) → ⊥
        none_less x b = grind arith

        head : (f : ℕ) (fs : List ℕ) (g : ℕ) → least_from 0 (f ∷ fs) ≡ Some g → f ≡ g
        head f fs g = cond_case (λ o. o ≡ Some g → f ≡ g) (nat_lt f 0) (least_from 0 fs) (Some f) (λ b. absurd (none_less f b)) (λ _ h. cc)

    pub chosen_third : (g : ℕ) → first_in (of_class closure 0) todo ≡ None → first_in (of_class closure 1) todo ≡ None → least_from 0 todo ≡ Some g → chosen closure todo ≡ g
    chosen_third g n m h = chosen_same todo g
        (each_map (λ x. (class x ≢ 0) × (class x ≢ 1)) (λ x. class x ≡ 2) todo (λ x p. third (class x) p.0 p.1 (class_few (formula_at closure x)))
        (each_both (λ x. class x ≢ 0) (λ x. class x ≢ 1) todo (not_of 0 (first_out (of_class closure 0) todo n)) (not_of 1 (first_out (of_class closure 1) todo m)))) h
      where
        third : (n : ℕ) → n ≢ 0 → n ≢ 1 → n ≤ 2 → n ≡ 2
        third n p q l = grind arith

    pub first_below : (set : List ℕ) (g : ℕ) → first_in set todo ≡ Some g → g < length closure
    first_below set g h = first_has (λ f. f < length closure) set todo g each_below h

pub none_left : (xs : List ℕ) → least_from 0 xs ≡ None → xs ≡ []
none_left [] h = refl
none_left (x ∷ xs) h = absurd (cond_case (λ o. o ≡ None → ⊥) (nat_lt x 0) (least_from 0 xs) (Some x) (λ b _. none_less x b) (λ _ e. absurd (cc)) h)
  where
    none_less : (x : ℕ) → IsTrue (nat_lt x 0) → ⊥
    none_less x b = grind arith
