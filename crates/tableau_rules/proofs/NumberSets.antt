-- What holds of each number of a set holds after a change of the set, and what such a change weighs.
use Rattle.std.proofs.Common.{◌≡◌, ◌≢◌, ℕ, ◌+◌, ◌≤◌, false, List, [], ◌∷◌, ◌==◌, IsTrue, nat_lt, arith, inl, inr, sym, ap, subst, ◌∙◌, true≢false}
use Rattle.std.specs.List.{AllByRecursion as Each}
use Rattle.bound_unfolding.specs.CoreForm.{CoreForm}
use Rattle.formula_table.specs.Closures.{formula_at, number_in}
use Rattle.tableau_rules.specs.Rules.{class_of}
use Rattle.tableau_rules.specs.Sets.{has_number, with_number, without_number}
use Rattle.tableau_rules.specs.Nodes.{first_best, with_numbers_of}
use Rattle.formula_table.proofs.Tests.{cond_case, or_left, or_right, or_true, eq_of, eq_self}

pub each_has : (P : ℕ → Type 0) (xs : List ℕ) (y : ℕ) → Each P xs → IsTrue (has_number xs y) → P y
each_has P [] y h k = absurd (true≢false (sym k))
each_has P (x ∷ xs) y h k = elim (or_true (y == x) (has_number xs y) k) [
  | inl e ↦ subst P (sym (eq_of y x e)) h.0
  | inr m ↦ each_has P xs y h.1 m
]

-- ---- with a number
pub each_with : (P : ℕ → Type 0) (x : ℕ) (ys : List ℕ) → P x → Each P ys → Each P (with_number x ys)
each_with P x [] p h = (p, tt)
each_with P x (y ∷ ys) p h =
    cond_case (Each P) (nat_lt x y) _ _ (λ _. (p, h)) (λ _. cond_case (Each P) (x == y) _ _ (λ _. h) (λ _. (h.0, each_with P x ys p h.1)))

pub each_of_with : (P : ℕ → Type 0) (x : ℕ) (ys : List ℕ) → Each P (with_number x ys) → P x × Each P ys
each_of_with P x [] = λ h. h
each_of_with P x (y ∷ ys) =
    let C : List ℕ → Type 0 = λ zs. Each P zs → P x × Each P (y ∷ ys) in
    cond_case C (nat_lt x y) _ _ (λ _ h. h)
    (λ _. cond_case C (x == y) _ _
    (λ e h. (subst P (sym (eq_of x y e)) h.0, h))
    (λ _ h. let r = each_of_with P x ys h.1 in (r.0, (h.0, r.1))))

pub has_with : (x : ℕ) (ys : List ℕ) → IsTrue (has_number (with_number x ys) x)
has_with x [] = or_left (x == x) false (eq_self x)
has_with x (y ∷ ys) =
    let C : List ℕ → Type 0 = λ zs. IsTrue (has_number zs x) in
    cond_case C (nat_lt x y) _ _ (λ _. or_left (x == x) _ (eq_self x))
    (λ _. cond_case C (x == y) _ _ (λ e. or_left (x == y) _ e) (λ _. or_right (x == y) _ (has_with x ys)))

pub has_with_more : (x z : ℕ) (ys : List ℕ) → IsTrue (has_number ys z) → IsTrue (has_number (with_number x ys) z)
has_with_more x z [] h = absurd (true≢false (sym h))
has_with_more x z (y ∷ ys) h =
    let C : List ℕ → Type 0 = λ zs. IsTrue (has_number zs z) in
    cond_case C (nat_lt x y) _ _ (λ _. or_right (z == x) _ h)
    (λ _. cond_case C (x == y) _ _ (λ _. h)
    (λ _. elim (or_true (z == y) (has_number ys z) h) [ inl e ↦ or_left (z == y) _ e | inr m ↦ or_right (z == y) _ (has_with_more x z ys m) ]))

-- ---- without a number
pub each_without : (P : ℕ → Type 0) (x : ℕ) (ys : List ℕ) → Each P ys → Each P (without_number x ys)
each_without P x [] h = tt
each_without P x (y ∷ ys) h = cond_case (Each P) (x == y) _ _ (λ _. h.1) (λ _. (h.0, each_without P x ys h.1))

pub each_of_without : (P : ℕ → Type 0) (x : ℕ) (ys : List ℕ) → P x → Each P (without_number x ys) → Each P ys
each_of_without P x [] p = λ h. tt
each_of_without P x (y ∷ ys) p =
    cond_case (λ zs. Each P zs → Each P (y ∷ ys)) (x == y) _ _
    (λ e h. (subst P (eq_of x y e) p, h)) (λ _ h. (h.0, each_of_without P x ys p h.1))

pub has_without : (x z : ℕ) (ys : List ℕ) → x ≢ z → IsTrue (has_number ys z) → IsTrue (has_number (without_number x ys) z)
has_without x z [] ne h = h
has_without x z (y ∷ ys) ne h =
    let C : List ℕ → Type 0 = λ zs. IsTrue (has_number zs z) in
    cond_case C (x == y) _ _
    (λ e. elim (or_true (z == y) (has_number ys z) h) [ inl g ↦ absurd (ne (eq_of x y e ∙ sym (eq_of z y g))) | inr m ↦ m ])
    (λ _. elim (or_true (z == y) (has_number ys z) h) [ inl g ↦ or_left (z == y) _ g | inr m ↦ or_right (z == y) _ (has_without x z ys ne m) ])

-- ---- with the numbers of cores
module _ (closure : List CoreForm) where
  pub each_with_cores : (P : ℕ → Type 0) (cs : List CoreForm) (xs : List ℕ) → Each (λ c. P (number_in closure c)) cs → Each P xs → Each P (with_numbers_of closure cs xs)
  each_with_cores P [] xs h k = k
  each_with_cores P (c ∷ cs) xs h k =
      each_with_cores P cs (with_number (number_in closure c) xs) h.1 (each_with P (number_in closure c) xs h.0 k)

  pub each_of_with_cores : (P : ℕ → Type 0) (cs : List CoreForm) (xs : List ℕ) → Each P (with_numbers_of closure cs xs) → Each (λ c. P (number_in closure c)) cs × Each P xs
  each_of_with_cores P [] xs h = (tt, h)
  each_of_with_cores P (c ∷ cs) xs h =
      let r = each_of_with_cores P cs (with_number (number_in closure c) xs) h in
      let q = each_of_with P (number_in closure c) xs r.1 in
      ((q.0, r.0), q.1)

  pub has_with_cores_more : (cs : List CoreForm) (xs : List ℕ) (z : ℕ) → IsTrue (has_number xs z) → IsTrue (has_number (with_numbers_of closure cs xs) z)
  has_with_cores_more [] xs z h = h
  has_with_cores_more (c ∷ cs) xs z h =
      has_with_cores_more cs (with_number (number_in closure c) xs) z (has_with_more (number_in closure c) z xs h)

  -- each of the cores that were put in is there
  pub each_put_in : (cs : List CoreForm) (xs : List ℕ) → Each (λ c. IsTrue (has_number (with_numbers_of closure cs xs) (number_in closure c))) cs
  each_put_in [] xs = tt
  each_put_in (c ∷ cs) xs =
      let ys = with_number (number_in closure c) xs in
      (has_with_cores_more cs ys (number_in closure c) (has_with (number_in closure c) xs), each_put_in cs ys)

  -- the chosen formula is one of the set
  pub has_first_best : (f : ℕ) (fs : List ℕ) → IsTrue (has_number (f ∷ fs) (first_best closure f fs))
  has_first_best f [] = or_left (f == f) false (eq_self f)
  has_first_best f (g ∷ gs) =
      cond_case (λ x. IsTrue (has_number (f ∷ g ∷ gs) (first_best closure x gs))) (nat_lt (class_of (formula_at closure g)) (class_of (formula_at closure f))) g f
      (λ _. or_right (first_best closure g gs == f) _ (has_first_best g gs))
      (λ _.
      let z = first_best closure f gs in
      elim (or_true (z == f) (has_number gs z) (has_first_best f gs)) [ inl e ↦ or_left (z == f) _ e | inr m ↦ or_right (z == f) _ (or_right (z == g) _ m) ])

-- ---- the sum of the weights of the numbers
abbrev pub total : (ℕ → ℕ) → List ℕ → ℕ
total w [] = 0
total w (x ∷ xs) = w x + total w xs

pub total_with : (w : ℕ → ℕ) (x : ℕ) (ys : List ℕ) → total w (with_number x ys) ≤ w x + total w ys
total_with w x [] = omega arith
total_with w x (y ∷ ys) =
    let C : List ℕ → Type 0 = λ zs. total w zs ≤ w x + (w y + total w ys) in
    cond_case C (nat_lt x y) _ _ (λ _. omega arith)
    (λ _. cond_case C (x == y) _ _ (λ _. omega arith) (λ _. omega (arith, total_with w x ys)))

pub total_without : (w : ℕ → ℕ) (x : ℕ) (ys : List ℕ) → IsTrue (has_number ys x) → w x + total w (without_number x ys) ≡ total w ys
total_without w x [] h = absurd (true≢false (sym h))
total_without w x (y ∷ ys) h =
    cond_case (λ zs. w x + total w zs ≡ w y + total w ys) (x == y) _ _
    (λ e. ap (λ z. w z + total w ys) (eq_of x y e))
    (λ f. elim (or_true (x == y) (has_number ys x) h) [
      | inl e ↦ absurd (true≢false (sym e ∙ f))
      | inr m ↦ omega (arith, total_without w x ys m)
    ])
