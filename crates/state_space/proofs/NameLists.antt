-- Lists without a repeated element, front by front.
use Rattle.std.proofs.Common.{◌≡◌, ◌≢◌, ℕ, ◌+◌, ◌<◌, ◌≤◌, List, ◌∷◌, [], ◌++◌, length, take, get_or, map, Bool, true, false, if◌then◌else◌, sym, ap, ◌∙◌, subst, AllPairs}
use Rattle.std.specs.List.{Contains}
use Rattle.std.proofs.lemmas.List.{take_more, take_all, map-append}
use Rattle.std.proofs.lemmas.List.Elements.{Contains-get_or}
use Rattle.std.proofs.lemmas.List.Quantifiers.{all_pairs_push}

pub distinct_push : {X : Type 0} (xs : List X) (x : X) → AllPairs (λ a b. a ≢ b) xs → ¬ (Contains xs x) → AllPairs (λ a b. a ≢ b) (xs ++ x ∷ [])
distinct_push xs x apart new = all_pairs_push (λ a b. a ≢ b) xs x apart (λ k d l e. new (subst (λ y. Contains xs y) e (Contains-get_or xs k d l)))

pub distinct_more : {X : Type 0} (xs : List X) (i : ℕ) (x : X) → i < length xs → x ≡ get_or xs i x → AllPairs (λ a b. a ≢ b) (take i xs) → ¬ (Contains (take i xs) x) → AllPairs (λ a b. a ≢ b) (take (i + 1) xs)
distinct_more xs i x l e apart new =
    subst (λ ys. AllPairs (λ a b. a ≢ b) ys) (sym (take_more xs i x l ∙ ap (λ y. take i xs ++ y ∷ []) (sym e))) (distinct_push (take i xs) x apart new)

pub distinct_all : {X : Type 0} (xs : List X) (i : ℕ) → length xs ≤ i → AllPairs (λ a b. a ≢ b) (take i xs) → AllPairs (λ a b. a ≢ b) xs
distinct_all xs i l apart = subst (λ ys. AllPairs (λ a b. a ≢ b) ys) (take_all i xs l) apart

-- a list that grows by an element whose view is new, or stays
pub distinct_grown : {X Y : Type 0} (f : X → Y) (xs ys : List X) (x : X) (grows : Bool) → AllPairs (λ a b. a ≢ b) (map f xs) → ¬ (Contains (map f xs) (f x)) → ys ≡ (if grows then xs ++ x ∷ [] else xs) → AllPairs (λ a b. a ≢ b) (map f ys)
distinct_grown f xs ys x true apart new e =
    subst (λ zs. AllPairs (λ a b. a ≢ b) zs) (sym (ap (map f) e ∙ map-append f xs (x ∷ []))) (distinct_push (map f xs) (f x) apart new)
distinct_grown f xs ys x false apart new e = subst (λ zs. AllPairs (λ a b. a ≢ b) (map f zs)) (sym e) apart
