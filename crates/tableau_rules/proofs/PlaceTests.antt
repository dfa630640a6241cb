-- Tests of places, and how many places are without a level.
use Rattle.std.proofs.Common.{◌≡◌, ℕ, zero, suc, ◌+◌, ◌<◌, ◌≤◌, ◌⊎◌, List, [], ◌∷◌, length, get_or, set, Bool, true, false, refl, sym, ap, subst, ◌∙◌, inl, inr, arith, ◌||◌, nat_lt, rules, replicate}
use Rattle.std.specs.List.{AllByRecursion as Each}
use Rattle.tableau_rules.specs.Links.{Among, IsHead}
use Rattle.tableau_rules.specs.Levels.{head_is, some_is, free}

pub or_is : (a b : Bool) → (a || b) ≡ true → (a ≡ true) ⊎ (b ≡ true)
or_is true b h = inl refl
or_is false b h = inr h

pub or_not : (a b : Bool) → (a || b) ≡ false → (a ≡ false) × (b ≡ false)
or_not true b h = cc
or_not false b h = (refl, h)

pub below_is : (a b : ℕ) → nat_lt a b ≡ true → a < b
below_is a b h = search rules

pub is_below : (a b : ℕ) → a < b → nat_lt a b ≡ true
is_below a b h = search rules

pub bool_of : (b : Bool) → (b ≡ true) ⊎ (b ≡ false)
bool_of true = inl refl
bool_of false = inr refl

pub no_both : (b : Bool) → b ≡ true → b ≡ false → ⊥
no_both b t f = elim (bool_of b) [ inl h ↦ cc | inr h ↦ cc ]

pub head_has : (p : ℕ → Bool) (xs : List ℕ) → head_is p xs ≡ true → (k : ℕ) × IsHead k xs × (p k ≡ true)
head_has p [] h = cc
head_has p (x ∷ xs) h = (x, refl, h)

pub head_none : (p : ℕ → Bool) (xs : List ℕ) (k : ℕ) → head_is p xs ≡ false → IsHead k xs → p k ≡ false
head_none p [] k h i = absurd i
head_none p (x ∷ xs) k h i = ap p i ∙ h

pub some_has : (p : ℕ → Bool) (xs : List ℕ) → some_is p xs ≡ true → (k : ℕ) × Among k xs × (p k ≡ true)
some_has p [] h = cc
some_has p (x ∷ []) h = (x, inl refl, h)
some_has p (x ∷ y ∷ ys) h = elim (or_is (p x) (some_is p (y ∷ ys)) h) [
  | inl a ↦ (x, inl refl, a)
  | inr b ↦ let r = some_has p (y ∷ ys) b in (r.0, inr r.1, r.2)
]

pub some_none : (p : ℕ → Bool) (xs : List ℕ) (k : ℕ) → some_is p xs ≡ false → Among k xs → p k ≡ false
some_none p [] k h i = absurd i
some_none p (x ∷ []) k h i = elim i [ inl e ↦ ap p e ∙ h | inr z ↦ absurd z ]
some_none p (x ∷ y ∷ ys) k h i = elim i [
  | inl e ↦ ap p e ∙ (or_not (p x) (some_is p (y ∷ ys)) h).0
  | inr z ↦ some_none p (y ∷ ys) k (or_not (p x) (some_is p (y ∷ ys)) h).1 z
]

pub each_at : (P : ℕ → Type 0) (xs : List ℕ) (k : ℕ) → Each P xs → Among k xs → P k
each_at P [] k h i = absurd i
each_at P (x ∷ xs) k h i = elim i [ inl e ↦ subst P (sym e) h.0 | inr z ↦ each_at P xs k h.1 z ]

pub head_among : (xs : List ℕ) (k : ℕ) → IsHead k xs → Among k xs
head_among [] k h = absurd h
head_among (x ∷ xs) k h = inl h

-- a write that takes one out of those that have no level
pub free_set : (c : ℕ) (xs : List ℕ) (i y : ℕ) → i < length xs → c ≤ get_or xs i 0 → y < c → free c (set xs i y) + 1 ≡ free c xs
free_set c [] i y lt t f = omega arith
free_set c (x ∷ xs) zero y lt t f = let a : nat_lt x c ≡ false = grind arith in let b = is_below y c f in rw (a, b) (omega arith)
free_set c (x ∷ xs) (suc i) y lt t f = let h = free_set c xs i y (omega arith) t f in omega (arith, h)

pub free_most : (c : ℕ) (xs : List ℕ) → free c xs ≤ length xs
free_most c [] = omega arith
free_most c (x ∷ xs) = let h = free_most c xs in elim (bool_of (nat_lt x c)) [ inl e ↦ rw e (omega (arith, h)) | inr e ↦ rw e (omega (arith, h)) ]

pub free_all : (c n : ℕ) → free c (replicate n c) ≡ n
free_all c zero = refl
free_all c (suc n) = let a : nat_lt c c ≡ false = grind arith in let h = free_all c n in rw a (omega (arith, h))
