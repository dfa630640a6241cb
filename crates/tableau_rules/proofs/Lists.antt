-- What holds of each element or of some, by recursion on the list.
use Rattle.std.proofs.Common.{◌≡◌, ℕ, zero, suc, ◌<◌, ◌⊎◌, List, [], ◌∷◌, refl, arith, inl, inr, sym, subst, map, length}
use Rattle.std.specs.Prelude.{Any, slice_index_or}
use Rattle.std.specs.List.{AllByRecursion as Each}

-- ---- of some element
abbrev pub AnyOf : {X : Type 0} → (X → Type 0) → List X → Type 0
AnyOf P [] = ⊥
AnyOf P (x ∷ xs) = P x ⊎ AnyOf P xs

abbrev pub FirstOf : {X : Type 0} → (X → Type 0) → List X → Type 0
FirstOf P [] = ⊥
FirstOf P (x ∷ xs) = P x

pub any_from_of : {X : Type 0} (P : X → Type 0) (xs : List X) → AnyOf P xs → Any P xs
any_from_of P [] h = absurd h
any_from_of P (x ∷ xs) h = elim h [
  | inl y ↦ (0, x, omega arith, refl, y)
  | inr z ↦ let r = any_from_of P xs z in (suc r.0, r.1, omega (arith, r.2), r.3, r.4)
]

pub any_at : {X : Type 0} (P : X → Type 0) (xs : List X) (k : ℕ) (x : X) → k < length xs → slice_index_or xs k x ≡ x → P x → AnyOf P xs
any_at P [] k x l e p = absurd (omega arith)
any_at P (y ∷ ys) zero x l e p = inl (subst P (sym e) p)
any_at P (y ∷ ys) (suc k) x l e p = inr (any_at P ys k x (omega arith) e p)

pub of_from_any : {X : Type 0} (P : X → Type 0) (xs : List X) → Any P xs → AnyOf P xs
of_from_any P xs h = any_at P xs h.0 h.1 h.2 h.3 h.4

-- ---- from one property to another
pub each_map : {X : Type 0} (P Q : X → Type 0) (xs : List X) → ((x : X) → P x → Q x) → Each P xs → Each Q xs
each_map P Q [] f h = tt
each_map P Q (x ∷ xs) f h = (f x h.0, each_map P Q xs f h.1)

pub each_both : {X : Type 0} (P Q : X → Type 0) (xs : List X) → Each P xs → Each Q xs → Each (λ x. P x × Q x) xs
each_both P Q [] h k = tt
each_both P Q (x ∷ xs) h k = ((h.0, k.0), each_both P Q xs h.1 k.1)

pub some_both : {X : Type 0} (P Q : X → Type 0) (xs : List X) → Each P xs → AnyOf Q xs → AnyOf (λ x. P x × Q x) xs
some_both P Q [] h k = k
some_both P Q (x ∷ xs) h k = elim k [ inl y ↦ inl (h.0, y) | inr z ↦ inr (some_both P Q xs h.1 z) ]

pub some_map : {X : Type 0} (P Q : X → Type 0) (xs : List X) → ((x : X) → P x → Q x) → AnyOf P xs → AnyOf Q xs
some_map P Q [] f h = h
some_map P Q (x ∷ xs) f h = elim h [ inl y ↦ inl (f x y) | inr z ↦ inr (some_map P Q xs f z) ]

-- what follows from any of them
pub some_const : {X : Type 0} (Q : Type 0) (P : X → Type 0) (xs : List X) → ((x : X) → P x → Q) → AnyOf P xs → Q
some_const Q P [] f h = absurd h
some_const Q P (x ∷ xs) f h = elim h [ inl y ↦ f x y | inr z ↦ some_const Q P xs f z ]

pub some_image : {X Y : Type 0} (P : Y → Type 0) (f : X → Y) (xs : List X) → AnyOf (λ x. P (f x)) xs → AnyOf P (map f xs)
some_image P f [] h = h
some_image P f (x ∷ xs) h = elim h [ inl y ↦ inl y | inr z ↦ inr (some_image P f xs z) ]

pub some_source : {X Y : Type 0} (P : Y → Type 0) (f : X → Y) (xs : List X) → AnyOf P (map f xs) → AnyOf (λ x. P (f x)) xs
some_source P f [] h = h
some_source P f (x ∷ xs) h = elim h [ inl y ↦ inl y | inr z ↦ inr (some_source P f xs z) ]
